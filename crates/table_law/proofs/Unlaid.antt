-- Without a granted lay a table that is not running stays as it is, and so does its record.
use Rattle.std.proofs.Common.{◌≡◌, ℕ, Bool, true, false, cond, ltb, List, [], ◌∷◌, refl, arith}
use Rattle.protocol.specs.Machine.{Protocol, inputs, laid}
use Rattle.protocol.specs.Table.{Phase, empty, running, ended, Table, Call, lay, step, turn_up, finish, where_now, began, Reply, refuse, preceded, session, Granted, grant, is_granted, granted}
use Rattle.table_law.specs.Record.{Untouched, UntouchedWithoutLay}

module _ (p : Protocol) (l : ℕ) (a : List ℕ) (w : ℕ) (bytes : List ℕ) where
  abbrev at : Phase → Table
  at phase = record { phase = phase; line = l; cards = a; written = w }

  abbrev Kept : Phase → List Call → Type 0
  Kept phase calls = (granted p (at phase) bytes calls).laid ≡ [] → Untouched (at phase) bytes (session p (at phase) bytes calls)

  ended_kept : (calls : List Call) → Kept ended calls
  unfolding session granted
  ended_kept [] h = record { stays = refl; kept = refl }
  ended_kept (lay x ∷ cs) h = let k = ended_kept cs h in record { stays = k.stays; kept = k.kept }
  ended_kept (step d ∷ cs) h = let k = ended_kept cs h in record { stays = k.stays; kept = k.kept }
  ended_kept (turn_up ∷ cs) h = let k = ended_kept cs h in record { stays = k.stays; kept = k.kept }
  ended_kept (finish ∷ cs) h = let k = ended_kept cs h in record { stays = k.stays; kept = k.kept }
  ended_kept (where_now ∷ cs) h = let k = ended_kept cs h in record { stays = k.stays; kept = k.kept }

  empty_kept : (calls : List Call) → Kept empty calls
  unfolding session granted
  empty_kept [] h = record { stays = refl; kept = refl }
  empty_kept (lay x ∷ cs) h = go (ltb x (inputs p)) (empty_kept cs) h
    where
      reply : Bool → Reply
      reply z =
          cond z
          (record {
            answer = began 2;
            table = record { phase = running; line = 2; cards = laid p x; written = w };
            bytes = bytes;
          })
          (refuse (at empty) bytes 26)

      after : Bool → Granted
      after z = granted p (reply z).table (reply z).bytes cs

      go : (z : Bool) → Kept empty cs → (cond (is_granted (reply z).answer) (grant p (at empty) (lay x) (after z)) (after z)).laid ≡ [] → Untouched (at empty) bytes (preceded (reply z).answer (session p (reply z).table (reply z).bytes cs))
      go true ih h = absurd (let z : ◌≡◌ {A = ℕ} 0 1 = cc in omega arith)
      go false ih h = let k = ih h in record { stays = k.stays; kept = k.kept }
  empty_kept (step d ∷ cs) h = let k = empty_kept cs h in record { stays = k.stays; kept = k.kept }
  empty_kept (turn_up ∷ cs) h = let k = empty_kept cs h in record { stays = k.stays; kept = k.kept }
  empty_kept (finish ∷ cs) h = let k = empty_kept cs h in record { stays = k.stays; kept = k.kept }
  empty_kept (where_now ∷ cs) h = let k = empty_kept cs h in record { stays = k.stays; kept = k.kept }

  by_phase : (phase : Phase) → (phase ≡ running → ⊥) → (calls : List Call) → Kept phase calls
  by_phase empty ne calls = empty_kept calls
  by_phase running ne calls = absurd (ne refl)
  by_phase ended ne calls = ended_kept calls

pub untouched_without_lay : UntouchedWithoutLay
untouched_without_lay p t bytes calls ne = by_phase p t.line t.cards t.written bytes t.phase ne calls
