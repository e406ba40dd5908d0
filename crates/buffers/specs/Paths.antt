-- A lent path, as crate model speaks of it.
use Rattle.model.specs.Problem.{Path}
use Rattle.buffers.specs.Inputs.{path}
use Rattle.buffers.specs.declared.path.Path.{Path as LentPath}

abbrev pub path_of : LentPath → Path
path_of q = path q.grid.now q.ends
