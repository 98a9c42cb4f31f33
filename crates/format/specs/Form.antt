-- The rule for the next byte of a frame, as data: the frame ends here, or a byte comes that passes a test, and then
-- the form that this byte leads to.
use Rattle.std.specs.Prelude.{ℕ, zero, suc, Bool, cond, List, [], ◌∷◌, ◌++◌, Some, None, Option}

pub data Form : Type 0 where
  ends : Form
  byte : (test : ℕ → Bool) → (next : ℕ → Form) → Form

-- The index of the first byte that is missing, too many or fails its test; the first byte has the index `at`.
abbrev pub wrong : ℕ → Form → List ℕ → Option ℕ
wrong at ends [] = None
wrong at ends (b ∷ bs) = Some at
wrong at (byte test next) [] = Some at
wrong at (byte test next) (b ∷ bs) = cond (test b) (wrong (suc at) (next b) bs) (Some at)

-- So many bytes, each by a rule over those before it in the list, and then a form that may look at the whole list.
abbrev pub listed : ℕ → (rule : List ℕ → ℕ → Bool) → (before : List ℕ) → (next : List ℕ → Form) → Form
listed zero rule before next = next before
listed (suc n) rule before next = byte (rule before) (λ b. listed n rule (before ++ b ∷ []) next)
