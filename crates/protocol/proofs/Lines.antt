-- What each line of a script makes of a state.
use Rattle.std.proofs.Common.{subst}
use Rattle.script.specs.Model.{LawfulAction}
use Rattle.protocol.specs.Machine.{permuting, shuffling}
use Rattle.protocol.specs.Promises.{StatesOfLines}
use Rattle.protocol.proofs.TreeSum.{inward_permuting, inward_shuffling}
use Rattle.protocol.proofs.Reached.{few_inputs}
use Rattle.protocol.proofs.Fixed.{starts, mixes_to, apart_permuting, apart_shuffling}
use Rattle.protocol.proofs.Turned.{turns_to}

pub states_of_lines : StatesOfLines
states_of_lines p ok =
    record {
      starts = starts p ok (few_inputs p ok);
      permutes = λ l next images h k e rows s.
          let law = subst (LawfulAction p.script.cards p.script.lines l) e (ok.script.acts l h k) in
          mixes_to p.script.cards (permuting images next) ok.script.few_cards (inward_permuting p l next images law) (apart_permuting p l next images law) rows s;
      shuffles = λ l total next h k e rows s.
          let law = subst (LawfulAction p.script.cards p.script.lines l) e (ok.script.acts l h k) in
          mixes_to p.script.cards (shuffling p l total next) ok.script.few_cards (inward_shuffling p ok l total next law) (apart_shuffling p ok l total next law) rows s;
      turns = λ places rows s. turns_to p.script.cards places rows s;
    }
