use Rattle.sheet.specs.Sheets.{sheet_bytes}
use Rattle.sheet.specs.Lawful.{lawful_script}
use Rattle.sheet.proofs.Paths.{small_products}
use Rattle.sheet.proofs.states.Sheet.into_checked.Goals as goal

pub returns-clause-lawful : goal.returns-clause-lawful
returns-clause-lawful c = lawful_script (sheet_bytes c.args.self) c.requires

pub returns-clause-small : goal.returns-clause-small
returns-clause-small c = small_products (sheet_bytes c.args.self) c.requires
