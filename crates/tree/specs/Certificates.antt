-- What a certificate of the code means.
use Rattle.std.specs.Prelude.{ℕ, List, [], ◌∷◌, take, None}
use Rattle.protocol.specs.Tree as tree
use Rattle.tree.specs.declared.certificate.Classes.{Classes}
use Rattle.tree.specs.declared.certificate.Certificate.{Certificate}

-- the classes of the eight inputs, that of input b at index b
abbrev pub class_list : Classes → List ℕ
class_list c = c.input0 ∷ c.input1 ∷ c.input2 ∷ c.input3 ∷ c.input4 ∷ c.input5 ∷ c.input6 ∷ c.input7 ∷ []

-- the certificate of a protocol with so many inputs
abbrev pub view : ℕ → Certificate → tree.Certificate
view inputs c =
    record { count = c.nodes; wrong = c.wrong; leaking = c.leaking; classes = take inputs (class_list c.classes) }

-- nothing noted yet
abbrev pub blank : Certificate
blank =
    record {
      nodes = 0;
      wrong = None;
      leaking = None;
      classes = record { input0 = 0; input1 = 0; input2 = 0; input3 = 0; input4 = 0; input5 = 0; input6 = 0; input7 = 0 };
    }
