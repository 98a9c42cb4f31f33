use Rattle.rows.proofs.Asides.{all_run, all_batch}
use Rattle.rows.proofs.batch.batch_start.Goals as goal

pub returns-then-len-lt-BATCH : goal.returns-then-len-lt-BATCH
returns-then-len-lt-BATCH c = λ room l up. all_batch room c.args.len l up

pub returns : goal.returns
returns c = λ room l up. all_run room c.args.len l up
