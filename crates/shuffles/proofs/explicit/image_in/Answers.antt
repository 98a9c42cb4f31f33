use Rattle.std.proofs.Common.{◌≡◌, ℕ, ◌-◌, ◌<◌, ◌≤◌, List, [], length, get_or, take, drop, sym, ap, ◌∙◌, arith, rules}
use Rattle.std.proofs.lemmas.List.{get_or_default}
use Rattle.cards.specs.Shuffles.{entries_of, spelled}
use Rattle.shuffles.specs.Entries.{Split, splitting, sound_room, split_long, split_first, split_later, rest_sound}
use Rattle.shuffles.proofs.explicit.image_in.Goals as goal
use Rattle.shuffles.proofs.explicit.image_in.Goals.{After-from-weight}

apart : (c : After-from-weight) → Split c.args.slots c.loop-rest.rest.now c.split_at.result.0.now c.split_at.result.1.now
apart c =
    let some : 0 < length c.loop-rest.rest.now = search rules in
    let room : c.from-width.result ≤ length (take (length c.loop-rest.rest.now - 1) (drop 1 c.loop-rest.rest.now)) = omega (arith, c.from-width.ensures, sound_room c.args.slots c.loop-rest.rest.now some c.loop-rest.invariant.0) in
    splitting _ c.from-width.result _ _ _ some c.from-width.ensures room c.split_at.ensures.front c.split_at.ensures.back

pub split_at-requires : goal.split_at-requires
split_at-requires c =
    let some : 0 < length c.loop-rest.rest.now = search rules in
    omega (arith, c.from-width.ensures, sound_room c.args.slots c.loop-rest.rest.now some c.loop-rest.invariant.0)

pub returns-then-left-weight : goal.returns-then-left-weight
returns-then-left-weight c =
    let s = apart (goal.at.returns-then-left-weight c).After-from-weight in
    let is = c.split_at.result.0.now in
    let h : c.loop-rest.left < get_or c.loop-rest.rest.now 0 0 = omega (arith, c.from-weight.ensures, c.if-left-weight.true) in
    let e : get_or (spelled (entries_of c.args.slots c.args.entries.now)) c.args.draw [] ≡ is = sym c.loop-rest.invariant.1 ∙ split_first _ _ _ _ s c.loop-rest.left h in
    let in' : c.args.slot < length is = omega (arith, split_long _ _ _ _ s, c.requires.inside) in
    ap (λ (n : ℕ). get_or is n 0) c.from.ensures ∙ get_or_default is c.args.slot 0 c.args.slot in' ∙ ap (λ (l : List ℕ). get_or l c.args.slot c.args.slot) (sym e)

pub loop-rest-preserved : goal.loop-rest-preserved
loop-rest-preserved c =
    let s = apart (goal.at.loop-rest-preserved c).After-from-weight in
    let q = c.args.slots in
    let h : get_or c.loop-rest.rest.now 0 0 ≤ c.loop-rest.left = omega (arith, c.from-weight.ensures, c.if-left-weight.false) in (
      rest_sound _ _ _ _ s c.loop-rest.invariant.0,
      ap (λ (w : ℕ). get_or (spelled (entries_of q c.split_at.result.1.now)) (c.loop-rest.left - w) []) c.from-weight.ensures ∙ sym (split_later _ _ _ _ s c.loop-rest.left h) ∙ c.loop-rest.invariant.1,
    )
