use Rattle.rows.proofs.Holdings.{cut_holding}
use Rattle.rows.proofs.Asides.{put_in_run}
use Rattle.rows.proofs.batch.make_way.Goals as goal

pub settle-requires : goal.settle-requires
settle-requires c = record { holding = cut_holding c.args.len c.args.end c.args.room.now c.requires.holding }

pub returns-clause-held : goal.returns-clause-held
returns-clause-held c = put_in_run c.args.len c.args.end c.args.room.now c.requires.holding c.settle.new.rows c.settle.auto.rows c.settle.ensures
