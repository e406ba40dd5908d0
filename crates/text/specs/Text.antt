-- Text as bytes, and what a writer of text leaves in a lent buffer.
use Rattle.std.specs.Prelude.{◌≡◌, ℕ, suc, cond, List, [], ◌∷◌, length, nat_lt, slice_set}
use Prim.Native.Char.{code}
use Prim.Native.String.{String, [] as empty, ◌∷◌ as ◌then◌}
use Rattle.std.specs.Borrow.{MutBor}
use denote.Triple.Both.{Both}
use Rattle.text.specs.declared.writer.Writer.{Writer}

-- the bytes of a text of ASCII
abbrev pub ascii : String → List ℕ
ascii empty = []
ascii (c then s) = code c ∷ ascii s

-- a buffer, and the place where the next byte goes
pub record Page : Type 0 where
  pub bytes : List ℕ
  pub at : ℕ

abbrev pub page : List ℕ → ℕ → Page
page bytes at = record { bytes = bytes; at = at }

-- a byte more; where there is no room for it, it is left out
unfoldable pub byte_more : ℕ → Page → Page
byte_more b p = cond (nat_lt p.at (length p.bytes)) (page (slice_set p.bytes p.at b) (suc p.at)) p

-- a text more
unfoldable pub more : List ℕ → Page → Page
more [] p = p
more (b ∷ bs) p = more bs (byte_more b p)

-- What a writer says: the buffer and the place after it are those before it with a text more.
pub record Says (text old : List ℕ) (at : ℕ) (new : List ℕ) (next : ℕ) : Type 0 where
  pub says : page new next ≡ more text (page old at)

-- a writer after a text more: the same buffer, with the bytes and the place as `more` has them
unfoldable pub written : List ℕ → Writer → Writer
written text w =
    let p = more text (page w.buffer.now w.at) in
    record { buffer = record { ref_ptr = w.buffer.ref_ptr; ghost_name = w.buffer.ghost_name; now = p.bytes }; at = p.at }

-- what a method says
abbrev pub says : List ℕ → Both (MutBor Writer) (MutBor Writer) → Type 0
says text writer = writer.exit.now ≡ written text writer.entry.now
