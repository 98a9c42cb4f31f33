-- The kinds of frames, and their bytes.
use Rattle.std.specs.Prelude.{◌≡◌, ℕ, ◌≢◌, Result, Ok, Err}
use Rattle.heads.specs.declared.head.Output.{Output}
use Rattle.heads.specs.declared.head.Output.TheVariants.{Committed as CommittedOutput, Open as OpenOutput}
use Rattle.heads.specs.declared.kind.Kind.{Kind}
use Rattle.heads.specs.declared.kind.Kind.TheVariants.{Head, Layout, Permute, Cut, Explicit, Turn, Committed, Open}
use Rattle.heads.specs.declared.kind.UnknownKind.{UnknownKind}

-- the byte of a kind, as its definition in the code shows it
abbrev pub kind_byte : Kind → ℕ
kind_byte Head = 0x01
kind_byte Layout = 0x02
kind_byte Permute = 0x10
kind_byte Cut = 0x11
kind_byte Explicit = 0x13
kind_byte Turn = 0x20
kind_byte Committed = 0x30
kind_byte Open = 0x31

-- the kind of a result that comes out so
abbrev pub kind_of_output : Output → Kind
kind_of_output CommittedOutput = Committed
kind_of_output OpenOutput = Open

-- A byte gives the kind that has it, and nothing where no kind has it.
abbrev pub Decodes : ℕ → Result Kind UnknownKind → Type 0
Decodes byte (Ok kind) = byte ≡ kind_byte kind
Decodes byte (Err e) = (e.byte ≡ byte) × ((kind : Kind) → byte ≢ kind_byte kind)
