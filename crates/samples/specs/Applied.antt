-- The promises at worked protocols: these are lawful and certified, so nothing that is promised is empty.
use Rattle.std.specs.Prelude.{ℕ, [], ◌∷◌, None}
use Rattle.protocol.specs.Machine.{Protocol, LawfulProtocol}
use Rattle.protocol.specs.Tree.{Certificate, Certified}
use Rattle.protocol.specs.Promises.{Promise}
use Rattle.protocol.specs.Samples.{xor, trick}

pub record Applies (p : Protocol) (bench : ℕ) (c : Certificate) : Type 0 where
  pub lawful : LawfulProtocol p
  pub certified : Certified p bench c
  pub promise : Promise p c

abbrev pub xor_certificate : Certificate
xor_certificate = record { count = 4; wrong = None; leaking = None; classes = 0 ∷ 0 ∷ 0 ∷ 0 ∷ [] }

abbrev pub trick_certificate : Certificate
trick_certificate = record { count = 12; wrong = None; leaking = None; classes = 0 ∷ 0 ∷ 0 ∷ 3 ∷ [] }

abbrev pub PromisesApply : Type 0
PromisesApply = Applies xor 10 xor_certificate × Applies trick 100 trick_certificate
