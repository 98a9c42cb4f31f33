use Rattle.std.proofs.Common.{◌⊎◌, length, ◌≡◌, ◌∙◌, inl, inr}
use Rattle.std.specs.Iterator.Adapters.{zip_first, zip_second}
use Rattle.std.specs.Slice.Iter.{iter_rest}
use Rattle.rows.proofs.Dictionary.{before_done}
use Rattle.rows.proofs.marks.before.Goals as goal

pub returns : goal.returns
returns c =
    let ended : (length (iter_rest (zip_first c.loop-x.x-iterator)) ≡ 0) ⊎ (length (iter_rest (zip_second c.loop-x.x-iterator)) ≡ 0) =
    elim c.in-None.ensures.steps [ inl u ↦ inl u.1.0 | inr u ↦ inr u.1.0 ] in
    before_done (iter_rest (zip_first c.loop-x.x-iterator)) (iter_rest (zip_second c.loop-x.x-iterator)) (length c.args.a.now) (length c.args.b.now) ended c.loop-x.invariant.3
    ∙ c.loop-x.invariant.2
