-- The images of a bank's shuffle at a line, where it fits and where it does not.
use Rattle.std.proofs.Common.{◌≡◌, ℕ, ◌<◌, Bool, true, false, cond, ◌&&◌, eqb, ltb, List, get_or, sym, refl, ap, ◌∙◌, zero-add}
use mathlib.Core.Path.{fun_ext}
use Rattle.std.proofs.lemmas.List.FromFn.{get_or-map-range_with_len}
use Rattle.std.proofs.lemmas.Bool.{cond-false}
use Rattle.cards.specs.Lists.{table}
use Rattle.cards.specs.Shuffles.{ShuffleMeaning, image}
use Rattle.protocol.specs.Machine.{Protocol, Mixing, shuffling, fitted}
use Rattle.rows.specs.Views.{Sends, Shuffles}

abbrev pub fit : ℕ → ℕ → ShuffleMeaning → Bool
fit n total m = eqb m.width n && eqb m.total total

pub image_apart : (n total : ℕ) (m : ShuffleMeaning) (d s : ℕ) → fit n total m ≡ false → image (fitted n total m) d s ≡ s
image_apart n total m d s e =
    let still : ShuffleMeaning = record { width = n; total = total; sends = λ d s. s } in
    ap (λ (k : ShuffleMeaning). image k d s) (cond-false (fit n total m) m still e)
    ∙ elim (ltb d total && ltb s n) as (λ t. cond t s s ≡ s) [ true ↦ refl | false ↦ refl ]

pub images_apart : (n total : ℕ) (m : ShuffleMeaning) (d : ℕ) → fit n total m ≡ false → table 12 (λ s. s) ≡ table 12 (image (fitted n total m) d)
images_apart n total m d e = ap (λ (f : ℕ → ℕ). table 12 f) (fun_ext (λ s. sym (image_apart n total m d s e)))

-- a mixing with the images of a bank's shuffle
abbrev pub of_bank : ℕ → ℕ → ShuffleMeaning → Mixing
of_bank n total m = record { total = total; sends = image (fitted n total m); next = 0 }

pub sends_table : (images : List ℕ) (f : ℕ → ℕ) → images ≡ table 12 f → (s : ℕ) → s < 12 → get_or images s 0 ≡ f s
sends_table images f e s l = ap (λ (xs : List ℕ). get_or xs s 0) e ∙ get_or-map-range_with_len f 0 12 s s 0 l (zero-add s)

pub sends_bank : (images : List ℕ) (n line total : ℕ) (m : ShuffleMeaning) (d : ℕ) → images ≡ table 12 (image (fitted n total m) d) → (p : Protocol) (next : ℕ) → Shuffles p n line m → Sends images (shuffling p line total next) d
sends_bank images n line total m d e p next h s l =
    sends_table images (image (fitted n total m) d) e s l
    ∙ ap (λ (k : ShuffleMeaning). image (fitted n total k) d s) (sym h.bank_has)
    ∙ ap (λ (k : ℕ). image (fitted k total (p.bank line)) d s) (sym h.cards_are)
