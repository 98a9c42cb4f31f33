use Rattle.std.proofs.Common.{ℕ, slice_index_or, arith, rules}
use Rattle.std.proofs.lemmas.List.{take_rest}
use Rattle.std.proofs.lemmas.Result.{err_from_is_err_and}
use Rattle.format.specs.Form.{Form, byte}
use Rattle.format.specs.Kinds.{from_to, piled_form, entries_form, explicit_form}
use Rattle.format.specs.Taking.{Next}
use Rattle.format.proofs.Joining.{come_none, come_byte, come_part, broken_here, no_byte_here, faulty_here, fits_here}
use Rattle.format.proofs.Shuffling.{explicit_shows}
use Rattle.format.proofs.cursor.Cursor.explicit.Goals as goal

abbrev counted : ℕ → Form
counted q = byte (from_to 1 8) (λ count. entries_form count q)

pub returns-in_err-piles : goal.returns-in_err-piles
returns-in_err-piles c =
    let n = c.args.cards in
    let p = err_from_is_err_and c.from_residual.result c.from_residual.ensures.1 in
    rw (p.1, p.2) (broken_here (piled_form n) counted c.in_err-piles.ensures (come_none (explicit_form n) c.args.self.now))

pub returns-in_err-entries-in-len1-up : goal.returns-in_err-entries-in-len1-up
returns-in_err-entries-in-len1-up c =
    let n = c.args.cards in
    let p = err_from_is_err_and c.from_residual-in_err-entries-in-len1-up.result c.from_residual-in_err-entries-in-len1-up.ensures.1 in
    let piled = come_part (piled_form n) counted c.in_ok-piles.ensures.passed (come_none (explicit_form n) c.args.self.now) in
    let count : Next c.piled.new.self (slice_index_or c.piled.new.self.rest.now 0 0) c.skip.new.self = search rules in
    rw (p.1, p.2) (faulty_here c.in_err-entries-in-len1-up.ensures (come_byte (search rules) count piled))

pub returns-in_ok-entries-in-len1-up : goal.returns-in_ok-entries-in-len1-up
returns-in_ok-entries-in-len1-up c =
    let n = c.args.cards in
    let piled = come_part (piled_form n) counted c.in_ok-piles.ensures.passed (come_none (explicit_form n) c.args.self.now) in
    let count : Next c.piled.new.self (slice_index_or c.piled.new.self.rest.now 0 0) c.skip.new.self = search rules in
    record {
      fits = fits_here c.in_ok-entries-in-len1-up.ensures (come_byte (search rules) count piled);
      shows = rw take_rest (explicit_shows n c.in_ok-piles.ensures);
    }

pub returns-in_default : goal.returns-in_default
returns-in_default c =
    let n = c.args.cards in
    let piled = come_part (piled_form n) counted c.in_ok-piles.ensures.passed (come_none (explicit_form n) c.args.self.now) in
    no_byte_here (record { fault = search rules; against = λ k. grind (rules, arith) }) piled
