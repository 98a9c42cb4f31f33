use Rattle.sheet.specs.Sheets.{script_bytes}
use Rattle.sheet.specs.Lawful.{lawful_script}
use Rattle.sheet.proofs.Paths.{small_products}
use Rattle.sheet.specs.Passed.{not_some}
use Rattle.sheet.proofs.states.CheckedScript.lines.Goals as goal

pub returns-clause-lawful : goal.returns-clause-lawful
returns-clause-lawful c = lawful_script (script_bytes c.args.self.now) (not_some _ c.args.self.now.passes)

pub returns-clause-small : goal.returns-clause-small
returns-clause-small c = small_products (script_bytes c.args.self.now) (not_some _ c.args.self.now.passes)
