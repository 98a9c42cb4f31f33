use Rattle.std.proofs.lemmas.Result.{err_from_is_err_and}
use Rattle.format.specs.Form.{ends}
use Rattle.format.specs.Kinds.{piled_form, cut_form}
use Rattle.format.proofs.Joining.{come_none, come_part, broken_here, faulty_here, fits_here}
use Rattle.format.proofs.Shuffling.{cut_shows}
use Rattle.format.proofs.cursor.Cursor.cut.Goals as goal

pub returns-in_err-piles : goal.returns-in_err-piles
returns-in_err-piles c =
    let n = c.args.cards in
    let p = err_from_is_err_and c.from_residual.result c.from_residual.ensures.1 in
    rw (p.1, p.2) (broken_here (piled_form n) (λ _. ends) c.in_err-piles.ensures (come_none (cut_form n) c.args.self.now))

pub returns-in_err-end : goal.returns-in_err-end
returns-in_err-end c =
    let n = c.args.cards in
    let p = err_from_is_err_and c.from_residual-in_err-end.result c.from_residual-in_err-end.ensures.1 in
    rw (p.1, p.2)
    (faulty_here c.in_err-end.ensures (come_part (piled_form n) (λ _. ends) c.in_ok-piles.ensures.passed (come_none (cut_form n) c.args.self.now)))

pub returns : goal.returns
returns c =
    let n = c.args.cards in
    let e = c.in_ok-end.ensures in
    record {
      fits = fits_here e.1 (come_part (piled_form n) (λ _. ends) c.in_ok-piles.ensures.passed (come_none (cut_form n) c.args.self.now));
      shows = cut_shows n c.in_ok-piles.ensures e.0;
    }
