-- The kind of a frame from line 2 on.
use Rattle.std.proofs.Common.{◌≡◌, ℕ, zero, suc, ◌≤◌, false, List, ◌∷◌, Result, Ok, Err, sym, refl, arith}
use Rattle.std.specs.Result.{is_ok}
use Rattle.std.proofs.lemmas.Bool.{ne_eqb, true≢false}
use Rattle.format.specs.Kinds.{kinds, known, one_of, form_at}
use Rattle.format.specs.Taking.{Faulty}
use Rattle.heads.specs.Kinds.{Decodes}
use Rattle.heads.specs.declared.head.Head.{Head}
use Rattle.heads.specs.declared.kind.Kind.{Kind}
use Rattle.heads.specs.declared.kind.Kind.TheVariants.{Permute, Cut, Explicit, Turn, Committed, Open}
use Rattle.heads.specs.declared.kind.UnknownKind.{UnknownKind}
use Rattle.heads.specs.declared.fault.SheetFault.TheVariants.{Byte}

module _ (h : Head) (lines line : ℕ) (l : 2 ≤ line) where
  pub form_later : form_at h lines line ≡ one_of (kinds h lines line)
  form_later = go line l
    where
      go : (k : ℕ) → 2 ≤ k → form_at h lines k ≡ one_of (kinds h lines k)
      go zero i = absurd (omega arith)
      go (suc zero) i = absurd (omega arith)
      go (suc (suc k)) i = refl

  pub kind_wrong : (b : ℕ) (bytes rest : List ℕ) → bytes ≡ b ∷ rest → known (kinds h lines line) b ≡ false
      → Faulty (form_at h lines line) 0 bytes line (Byte line 0)
  kind_wrong b bytes rest e k = record { index = 0; names = refl; first = rw (form_later, e, k) }

  -- a byte that is no kind's
  pub no_kind : (b : ℕ) (r : Result Kind UnknownKind) → Decodes b r → is_ok r ≡ false → known (kinds h lines line) b ≡ false
  no_kind b (Ok kind) d i = absurd (true≢false i)
  no_kind b (Err e) d i =
      rw (
        ne_eqb 0x10 b (λ j. d.1 Permute (sym j)),
        ne_eqb 0x11 b (λ j. d.1 Cut (sym j)),
        ne_eqb 0x13 b (λ j. d.1 Explicit (sym j)),
        ne_eqb 0x20 b (λ j. d.1 Turn (sym j)),
        ne_eqb 0x30 b (λ j. d.1 Committed (sym j)),
        ne_eqb 0x31 b (λ j. d.1 Open (sym j)),
      )
