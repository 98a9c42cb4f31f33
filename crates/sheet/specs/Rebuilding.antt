-- The actions of lines as they are written.
use Rattle.std.specs.Prelude.{◌≡◌, ℕ, zero, suc, pred, ◌-◌, ◌*◌, ◌<◌, ◌≤◌, true, List, [], ◌∷◌, ◌++◌, map, length, take, drop, ◌==◌, slice_index, slice_index_or, refl}
use Rattle.std.proofs.Common.{add-one, arith, sym, ap, ◌∙◌}
use Rattle.std.proofs.lemmas.List.{take_at, drop_at, get_or_at, append_assoc, length-append, length-map, get_or-map, drop-drop}
use Rattle.std.proofs.lemmas.List.Sums.{sum_by-cons}
use Rattle.std.proofs.lemmas.Bool.{and_parts, eqb-true}
use Rattle.std.specs.List.{flat_map, AllByRecursion}
use Rattle.cards.specs.Lists.{distinct}
use Rattle.cards.specs.Shuffles.{Entry, Permutes, entries_of, weights}
use Rattle.shuffles.specs.Entries.{entries_cons}
use Rattle.shuffles.specs.Positions.{distinct_range, distinct_apart}
use Rattle.script.specs.Model as model
use Rattle.writing.specs.Writing.{entry_bytes, branch_bytes, KeepsEntry}
use Rattle.sheet.specs.Scripts.{branches_of}
use Rattle.sheet.specs.Chunks.{branches_step}

-- entries that are written one after another are read back
pub entries_back : (q : ℕ) (es : List Entry) → AllByRecursion (KeepsEntry q) es → entries_of q (flat_map entry_bytes es) ≡ es
entries_back q [] k = refl
entries_back q (e ∷ es) k =
    let l : length e.images ≡ q = eqb-true _ q (and_parts (length e.images == q) (distinct 0 (q - 1) e.images) k.0.permuted).0 in
    entries_cons q e.weight (e.images ++ flat_map entry_bytes es)
    ∙ (ap (λ is. record { weight = e.weight; images = is } ∷ entries_of q (drop q (e.images ++ flat_map entry_bytes es)))
    (take_at e.images (flat_map entry_bytes es) q l)
    ∙ (ap (λ bs. e ∷ entries_of q bs) (drop_at e.images (flat_map entry_bytes es) q l)
    ∙ ap (λ rest. e ∷ rest) (entries_back q es k.1)))

-- branches that are written one after another are read back
pub branches_back : (t : ℕ) (bs : List model.Branch) → AllByRecursion (λ b. length b.marks ≡ t) bs → branches_of t (flat_map branch_bytes bs) ≡ bs
branches_back t [] k = refl
branches_back t (b ∷ bs) k =
    let rest = flat_map branch_bytes bs in
    let l = k.0 in
    let shape : flat_map branch_bytes (b ∷ bs) ≡ b.marks ++ b.target ∷ rest = append_assoc b.marks (b.target ∷ []) rest in
    let long : t < length (b.marks ++ b.target ∷ rest) = rw (length-append b.marks (b.target ∷ rest)) (omega arith) in
    let front : take t (b.marks ++ b.target ∷ rest) ≡ b.marks = take_at b.marks (b.target ∷ rest) t l in
    let mid : slice_index_or (b.marks ++ b.target ∷ rest) t 0 ≡ b.target = get_or_at b.marks b.target rest 0 t l in
    let back : drop (suc t) (b.marks ++ b.target ∷ rest) ≡ rest =
    ap (λ n. drop n (b.marks ++ b.target ∷ rest)) (sym (add-one t))
    ∙ (sym (drop-drop 1 t (b.marks ++ b.target ∷ rest)) ∙ ap (drop 1) (drop_at b.marks (b.target ∷ rest) t l)) in
    ap (branches_of t) shape
    ∙ (branches_step t (b.marks ++ b.target ∷ rest) long
    ∙ (ap (λ m. record { marks = m; target = slice_index (b.marks ++ b.target ∷ rest) t } ∷ branches_of t (drop (suc t) (b.marks ++ b.target ∷ rest))) front
    ∙ (ap (λ x. record { marks = b.marks; target = x } ∷ branches_of t (drop (suc t) (b.marks ++ b.target ∷ rest))) mid
    ∙ (ap (λ x. b ∷ branches_of t x) back
    ∙ ap (λ x. b ∷ x) (branches_back t bs k.1)))))

-- the weights of a few entries
pub weights_few : (q : ℕ) (es : List Entry) → AllByRecursion (KeepsEntry q) es → (length es ≤ weights es) × (weights es ≤ 255 * length es)
weights_few q [] k = (omega arith, omega arith)
weights_few q (e ∷ es) k =
    let s = sum_by-cons (λ (x : Entry). x.weight) e es in
    let r = weights_few q es k.1 in
    (omega (arith, s, r.0, k.0.low), omega (arith, s, r.1, k.0.high))

-- distinct places permute the slots
pub permuting : (n : ℕ) (ps : List ℕ) → length ps ≡ n → distinct 1 n ps ≡ true → Permutes n (map pred ps)
permuting n ps l d =
    record {
      long = length-map ps pred ∙ l;
      below = λ s h. let r = distinct_range 1 n ps d s (omega arith) in
          rw (get_or-map pred ps s 0 0 (omega arith)) (below_one (slice_index ps s) r.0 r.1);
      apart = λ s t h k e.
          let i = distinct_range 1 n ps d s (omega arith) in
          let j = distinct_range 1 n ps d t (omega arith) in
          let f : pred (slice_index ps s) ≡ pred (slice_index ps t) =
          sym (get_or-map pred ps s 0 0 (omega arith)) ∙ (e ∙ get_or-map pred ps t 0 0 (omega arith)) in
          distinct_apart 1 n ps d s t (omega arith) (omega arith) (same_pred (slice_index ps s) (slice_index ps t) i.0 j.0 f);
    }
  where
    below_one : (p : ℕ) → 1 ≤ p → p ≤ n → pred p < n
    below_one zero a b = absurd (omega arith)
    below_one (suc p) a b = b

    same_pred : (x y : ℕ) → 1 ≤ x → 1 ≤ y → pred x ≡ pred y → x ≡ y
    same_pred zero y a b e = absurd (omega arith)
    same_pred (suc x) zero a b e = absurd (omega arith)
    same_pred (suc x) (suc y) a b e = ap suc e
