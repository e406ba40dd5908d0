-- What src/contents.rt's Contents and src/lib.rt's Assembled lend: what the buffers hold, what names and owners go by, and the matrix.
use Rattle.model.specs.Answers.{Buffers, buffers}
use Rattle.column_names.specs.Columns.{Layout, layout_of}
use Rattle.listing.specs.Rows.{Matrix}
use Rattle.listing.specs.Page.{matrix_of}
use Rattle.listing.specs.declared.contents.Contents.{Contents}
use Rattle.listing.specs.declared.Assembled.{Assembled}

abbrev pub contents_of : Contents → Buffers
contents_of x = buffers x.rows.now x.columns.now x.values.now x.right.now x.kinds.now x.dimensions.now x.cost.now x.index.now

abbrev pub layout_in : Assembled → Layout
layout_in x = layout_of x.layout

abbrev pub matrix_in : Assembled → Matrix
matrix_in x = matrix_of (contents_of x.contents)
