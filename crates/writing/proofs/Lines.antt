-- Each kind of line: written by its rules it is accepted, and accepted bytes are so written.
use Rattle.std.proofs.Common.{◌≡◌, ℕ, zero, suc, ◌+◌, ◌-◌, ◌*◌, ◌<◌, ◌≤◌, Bool, true, ◌&&◌, eqb, leb, List, [], ◌∷◌, ◌++◌, length, get_or, take, drop, None, sym, refl, ap, ◌∙◌, subst, arith}
use Rattle.std.proofs.lemmas.List.{append-nil, get_or-take, length-take-le, take-take, take-append-drop}
use Rattle.std.proofs.lemmas.Bool.{and_parts, and_from, le-leb, leb-true, eq-eqb, eqb-true}
use Rattle.std.specs.List.{flat_map, AllByRecursion}
use Rattle.cards.specs.Lists.{distinct}
use Rattle.cards.specs.Shuffles.{Entry, permutes}
use Rattle.format.specs.Form.{Form, ends, byte, wrong, listed}
use Rattle.format.specs.Kinds.{from_to, distinct_rule, permute_form, piled_form, entries_form}
use Rattle.format.proofs.Inversion.{byte_fits, ends_fits, listed_fits}
use Rattle.writing.specs.Writing.{entry_bytes, KeepsEntry, KeepsPiles}
use Rattle.writing.proofs.Accepting.{listed_accepts}
use Rattle.writing.proofs.Listing.{in_range, from_range, distinct_each, each_distinct}

-- a list that is all that is taken of the bytes
same_each : (rule : List ℕ → ℕ → Bool) (n : ℕ) (bytes : List ℕ) → n ≤ length bytes
    → ((i : ℕ) → i < n → rule (take i bytes) (get_or bytes i 0) ≡ true)
    → (i : ℕ) → i < n → rule (take i (take n bytes)) (get_or (take n bytes) i 0) ≡ true
same_each rule n bytes l f i h = rw (take-take i n bytes (omega arith), get_or-take n bytes i 0 h) (f i h)

-- the list that was taken, with what is known of it
pub record Got (rule : List ℕ → ℕ → Bool) (n from : ℕ) (next : List ℕ → Form) (bytes list rest : List ℕ) : Type 0 where
  pub whole : list ++ rest ≡ bytes
  pub long : length list ≡ n
  pub each : (i : ℕ) → i < n → rule (take i list) (get_or list i 0) ≡ true
  pub after : wrong (from + n) (next list) rest ≡ None

pub got : (rule : List ℕ → ℕ → Bool) (n from : ℕ) (next : List ℕ → Form) (bytes : List ℕ) → wrong from (listed n rule [] next) bytes ≡ None
    → Got rule n from next bytes (take n bytes) (drop n bytes)
got rule n from next bytes e =
    let p = listed_fits rule next n from [] bytes e in
    record {
      whole = take-append-drop n bytes;
      long = length-take-le n bytes p.long;
      each = same_each rule n bytes p.long p.each;
      after = p.rest;
    }

pub first_rest : (bytes : List ℕ) → 1 ≤ length bytes → bytes ≡ get_or bytes 0 0 ∷ drop 1 bytes
first_rest [] l = absurd (omega arith)
first_rest (b ∷ bs) l = refl

-- permute
pub permute_accepts : (n : ℕ) (ps : List ℕ) → length ps ≡ n → distinct 1 n ps ≡ true → wrong 1 (permute_form n) ps ≡ None
permute_accepts n ps e d =
    let p = listed_accepts (distinct_rule 1 n) (λ _. ends) n 1 [] ps [] e (λ i h. distinct_each 1 n ps d i (omega arith)) in
    ap (λ b. wrong 1 (permute_form n) b) (sym (append-nil ps)) ∙ p

pub permute_reads : (n : ℕ) (tail : List ℕ) → wrong 1 (permute_form n) tail ≡ None → (length tail ≡ n) × (distinct 1 n tail ≡ true)
permute_reads n tail e =
    let g = got (distinct_rule 1 n) n 1 (λ _. ends) tail e in
    let nil = ends_fits (1 + n) (drop n tail) g.after in
    let same : take n tail ≡ tail = sym (append-nil (take n tail)) ∙ (ap (λ r. take n tail ++ r) (sym nil) ∙ g.whole) in (
      subst (λ xs. length xs ≡ n) same g.long,
      subst (λ xs. distinct 1 n xs ≡ true) same (each_distinct 1 n n (take n tail) g.long g.each),
    )

-- m, q and the places
pub piled_accepts : (n : ℕ) (next : ℕ → Form) (m q : ℕ) (ps rest : List ℕ) → KeepsPiles n m q ps
    → wrong 1 (piled_form n next) (m ∷ q ∷ ps ++ rest) ≡ wrong (3 + q * m) (next q) rest
piled_accepts n next m q ps rest k =
    let p = listed_accepts (distinct_rule 1 n) (λ _. next q) (q * m) 3 [] ps rest k.long
    (λ i h. distinct_each 1 n ps k.apart i (rw k.long h)) in
    rw (
      from_range 1 12 m k.some_piles k.few_piles,
      and_from (from_to 2 12 q) (leb (q * m) n) (from_range 2 12 q k.some_slots k.few_slots) (le-leb (q * m) n k.inside),
    ) p

pub record PiledGot (n : ℕ) (next : ℕ → Form) (tail : List ℕ) (m q : ℕ) (ps rest : List ℕ) : Type 0 where
  pub whole : m ∷ q ∷ ps ++ rest ≡ tail
  pub keeps : KeepsPiles n m q ps
  pub after : wrong (3 + q * m) (next q) rest ≡ None

abbrev second : ℕ → (ℕ → Form) → ℕ → Form
second n next m = byte (λ q. from_to 2 12 q && leb (q * m) n) (λ q. listed (q * m) (distinct_rule 1 n) [] (λ _. next q))

pub piled_reads : (n : ℕ) (next : ℕ → Form) (tail : List ℕ) → wrong 1 (piled_form n next) tail ≡ None
    → PiledGot n next tail (get_or tail 0 0) (get_or tail 1 0)
    (take (get_or tail 1 0 * get_or tail 0 0) (drop 2 tail)) (drop (get_or tail 1 0 * get_or tail 0 0) (drop 2 tail))
piled_reads n next [] e = let p = byte_fits (from_to 1 12) (second n next) 1 [] e in absurd (omega (arith, p.0))
piled_reads n next (m ∷ []) e =
    let a = byte_fits (from_to 1 12) (second n next) 1 (m ∷ []) e in
    let p = byte_fits (λ y. from_to 2 12 y && leb (y * m) n) (λ y. listed (y * m) (distinct_rule 1 n) [] (λ _. next y)) 2 [] a.1.1 in
    absurd (omega (arith, p.0))
piled_reads n next (m ∷ q ∷ t) e =
    let a = byte_fits (from_to 1 12) (second n next) 1 (m ∷ q ∷ t) e in
    let b = byte_fits (λ y. from_to 2 12 y && leb (y * m) n) (λ y. listed (y * m) (distinct_rule 1 n) [] (λ _. next y)) 2 (q ∷ t) a.1.1 in
    let c = and_parts (from_to 2 12 q) (leb (q * m) n) b.1.0 in
    let g = got (distinct_rule 1 n) (q * m) 3 (λ _. next q) t b.1.1 in
    let i = in_range 1 12 m a.1.0 in
    let j = in_range 2 12 q c.0 in
    record {
      whole = ap (λ r. m ∷ q ∷ r) g.whole;
      keeps = record {
        some_piles = i.0;
        few_piles = i.1;
        some_slots = j.0;
        few_slots = j.1;
        inside = leb-true (q * m) n c.1;
        long = g.long;
        apart = each_distinct 1 n (q * m) (take (q * m) t) g.long g.each;
      };
      after = g.after;
    }

-- entries
permuted : (q : ℕ) (is : List ℕ) → permutes q is ≡ true → (length is ≡ q) × (distinct 0 (q - 1) is ≡ true)
permuted q is e = let p = and_parts (eqb (length is) q) (distinct 0 (q - 1) is) e in (eqb-true (length is) q p.0, p.1)

pub entries_accepts : (q from : ℕ) (es : List Entry) → AllByRecursion (KeepsEntry q) es
    → wrong from (entries_form (length es) q) (flat_map entry_bytes es) ≡ None
entries_accepts q from [] k = refl
entries_accepts q from (e ∷ es) k =
    let d = permuted q e.images k.0.permuted in
    let p = listed_accepts (distinct_rule 0 (q - 1)) (λ _. entries_form (length es) q) q (suc from) [] e.images (flat_map entry_bytes es) d.0
    (λ i h. distinct_each 0 (q - 1) e.images d.1 i (rw d.0 h)) in
    rw (from_range 1 255 e.weight k.0.low k.0.high) (p ∙ entries_accepts q (suc from + q) es k.1)

pub record EntriesGot (count q : ℕ) (bytes : List ℕ) (es : List Entry) : Type 0 where
  pub long : length es ≡ count
  pub whole : flat_map entry_bytes es ≡ bytes
  pub keep : AllByRecursion (KeepsEntry q) es

pub entries_reads : (count q from : ℕ) (bytes : List ℕ) → wrong from (entries_form count q) bytes ≡ None
    → (es : List Entry) × EntriesGot count q bytes es
entries_reads zero q from bytes e =
    ([], record { long = refl; whole = sym (ends_fits from bytes e); keep = tt })
entries_reads (suc count) q from [] e =
    let p = byte_fits (from_to 1 255) (λ _. listed q (distinct_rule 0 (q - 1)) [] (λ _. entries_form count q)) from [] e in absurd (omega (arith, p.0))
entries_reads (suc count) q from (w ∷ bs) e =
    let a = byte_fits (from_to 1 255) (λ _. listed q (distinct_rule 0 (q - 1)) [] (λ _. entries_form count q)) from (w ∷ bs) e in
    let g = got (distinct_rule 0 (q - 1)) q (suc from) (λ _. entries_form count q) bs a.1.1 in
    let r = entries_reads count q (suc from + q) (drop q bs) g.after in
    let i = in_range 1 255 w a.1.0 in (
      record { weight = w; images = take q bs } ∷ r.0,
      record {
        long = ap suc r.1.long;
        whole = ap (λ x. w ∷ x) (ap (λ x. take q bs ++ x) r.1.whole ∙ g.whole);
        keep = (
          record {
            low = i.0;
            high = i.1;
            permuted = and_from _ _ (eq-eqb _ q g.long) (each_distinct 0 (q - 1) q (take q bs) g.long g.each);
          },
          r.1.keep,
        );
      },
    )
