-- Worked protocols, as models: exclusive or with four cards, three spoilt forms of it, and the five-card trick.
use Rattle.std.specs.Prelude.{◌≡◌, ℕ, zero, suc, List, [], ◌∷◌, length, Some, None, Ok, Err, Option, Result, slice_index_or}
use Rattle.cards.specs.Shuffles.{ShuffleMeaning, cut, explicit, piles, places}
use Rattle.cards.specs.Decks.{two_colour}
use Rattle.script.specs.Model.{Branch, Action, permute, shuffle, turn, committed, opened, none, committed_output, open_output}
use Rattle.script.specs.Faults.{Fault}
use Rattle.script.specs.declared.fault.Layer.TheVariants.{Table as table_layer}
use Rattle.protocol.specs.Machine.{Protocol, permuting, moved}
use Rattle.protocol.specs.Tree.{Node, nodes, Certificate, certify, class, tree_fault}
use Rattle.protocol.specs.Table.{Phase, empty, running, Answer, began, stepped, turned, finished, stands_at, refused, ended, session, empty_table, lay, step, turn_up, finish, where_now}

-- the action at a line, from the actions of all lines
abbrev pub line_of : List Action → ℕ → Action
line_of actions l = slice_index_or actions l none

abbrev pub branch : List ℕ → ℕ → Branch
branch marks target = record { marks = marks; target = target }

-- Two players lay their bits as pairs of cards. A random bisection cut of the halves 1 2 and 3 4, taken in the order
-- 1 3 2 4, is followed by a turn of places 1 and 2, and the pair at 3 and 4 is the result, swapped where a heart came
-- first.
abbrev pub both_branches : List Branch
both_branches = branch (0 ∷ 1 ∷ []) 4 ∷ branch (1 ∷ 0 ∷ []) 5 ∷ []

abbrev pub xor_with : (total : ℕ) → List Branch → (last : Action) → ShuffleMeaning → Protocol
xor_with total branches last below =
    record {
      script =
          record {
            cards = 4;
            players = 2;
            function = 6;
            output = committed_output;
            codes = 16 ∷ 17 ∷ 18 ∷ 19 ∷ [];
            lines = 6;
            action = line_of (none ∷ none ∷ shuffle total 3 ∷ turn (1 ∷ 2 ∷ []) branches ∷ committed 3 4 ∷ last ∷ []);
          };
      deck = two_colour;
      bank = λ l. places 4 (1 ∷ 3 ∷ 2 ∷ 4 ∷ []) (piles 2 below);
    }

abbrev pub xor : Protocol
xor = xor_with 2 both_branches (committed 4 3) (cut 2)

-- its halves are swapped twice as often as not
abbrev pub uneven_xor : Protocol
uneven_xor =
    xor_with 3 both_branches (committed 4 3)
    (explicit 2 (record { weight = 1; images = 0 ∷ 1 ∷ [] } ∷ record { weight = 2; images = 1 ∷ 0 ∷ [] } ∷ []))

-- its last line does not swap the pair
abbrev pub wrong_xor : Protocol
wrong_xor = xor_with 2 both_branches (committed 3 4) (cut 2)

-- its last line reads two cards that may be the same
abbrev pub neither_xor : Protocol
neither_xor = xor_with 2 both_branches (committed 1 4) (cut 2)

-- it has no branch for a heart first
abbrev pub short_xor : Protocol
short_xor = xor_with 2 (branch (0 ∷ 1 ∷ []) 4 ∷ []) (committed 4 3) (cut 2)

-- The same with the halves brought together by a permute, cut, and brought back.
abbrev pub rearranged_xor : Protocol
rearranged_xor =
    record {
      script = record {
        cards = 4;
        players = 2;
        function = 6;
        output = committed_output;
        codes = 16 ∷ 17 ∷ 18 ∷ 19 ∷ [];
        lines = 8;
        action = line_of
            (none
            ∷ none
            ∷ permute (0 ∷ 2 ∷ 1 ∷ 3 ∷ []) 3
            ∷ shuffle 2 4
            ∷ permute (0 ∷ 2 ∷ 1 ∷ 3 ∷ []) 5
            ∷ turn (1 ∷ 2 ∷ []) (branch (0 ∷ 1 ∷ []) 6 ∷ branch (1 ∷ 0 ∷ []) 7 ∷ [])
            ∷ committed 3 4
            ∷ committed 4 3
            ∷ []);
      };
      deck = two_colour;
      bank = λ l. piles 2 (cut 2);
    }

-- The five-card trick: a cut of all five cards, which are then all turned. The clubs are adjacent in the circle exactly
-- where both bits are 1.
abbrev pub trick : Protocol
trick =
    record {
      script =
          record {
            cards = 5;
            players = 2;
            function = 8;
            output = open_output;
            codes = 17 ∷ 16 ∷ 1 ∷ 18 ∷ 19 ∷ [];
            lines = 6;
            action = line_of (none
                ∷ none
                ∷ shuffle 5 3
                ∷ turn (1 ∷ 2 ∷ 3 ∷ 4 ∷ 5 ∷ [])
                (branch (0 ∷ 0 ∷ 1 ∷ 1 ∷ 1 ∷ []) 5
                ∷ branch (0 ∷ 1 ∷ 0 ∷ 1 ∷ 1 ∷ []) 4
                ∷ branch (0 ∷ 1 ∷ 1 ∷ 0 ∷ 1 ∷ []) 4
                ∷ branch (0 ∷ 1 ∷ 1 ∷ 1 ∷ 0 ∷ []) 5
                ∷ branch (1 ∷ 0 ∷ 0 ∷ 1 ∷ 1 ∷ []) 5
                ∷ branch (1 ∷ 0 ∷ 1 ∷ 0 ∷ 1 ∷ []) 4
                ∷ branch (1 ∷ 0 ∷ 1 ∷ 1 ∷ 0 ∷ []) 4
                ∷ branch (1 ∷ 1 ∷ 0 ∷ 0 ∷ 1 ∷ []) 5
                ∷ branch (1 ∷ 1 ∷ 0 ∷ 1 ∷ 0 ∷ []) 4
                ∷ branch (1 ∷ 1 ∷ 1 ∷ 0 ∷ 0 ∷ []) 5
                ∷ [])
                ∷ opened 0
                ∷ opened 1
                ∷ []);
          };
      deck = two_colour;
      bank = λ l. places 5 (1 ∷ 2 ∷ 3 ∷ 4 ∷ 5 ∷ []) (piles 1 (cut 5));
    }

-- numbers of a worked protocol, with a bench of a hundred rows: its nodes, and the class of an input
abbrev pub count_in : Result Certificate Fault → ℕ
count_in (Ok c) = c.count
count_in (Err f) = 0

abbrev pub nodes_of : Protocol → ℕ
nodes_of p = count_in (certify p 100)

-- the number of the refusal where the tree is not built
abbrev pub refusal_in : Result Certificate Fault → ℕ
refusal_in (Ok c) = 0
refusal_in (Err f) = f.number

abbrev pub refusal_of : Protocol → ℕ
refusal_of p = refusal_in (certify p 100)

-- its first wrong node, or 512 where none is
abbrev pub number_or_none : Option ℕ → ℕ
number_or_none None = 512
number_or_none (Some k) = k

abbrev pub wrong_or_none : Result Certificate Fault → ℕ
wrong_or_none (Ok c) = number_or_none c.wrong
wrong_or_none (Err f) = 512

abbrev pub wrong_in : Protocol → ℕ
wrong_in p = wrong_or_none (certify p 100)

-- the number of rows at its k-th node
abbrev pub rows_in : ℕ → List Node → ℕ
rows_in k [] = 0
rows_in zero (u ∷ us) = length u.rows
rows_in (suc k) (u ∷ us) = rows_in k us

abbrev pub rows_at : ℕ → Protocol → ℕ
rows_at k p = rows_in k (nodes p)

abbrev pub class_or_zero : ℕ → Result Certificate Fault → ℕ
class_or_zero b (Ok c) = class c b
class_or_zero b (Err f) = 0

abbrev pub class_in : Protocol → ℕ → ℕ
class_in p b = class_or_zero b (certify p 100)

-- the bit that a finish gives on its table after a lay, one step and one turn
abbrev pub output_in : List Answer → ℕ
output_in [] = 2
output_in (began l ∷ rest) = output_in rest
output_in (stepped l ∷ rest) = output_in rest
output_in (turned l w ∷ rest) = output_in rest
output_in (finished b ∷ rest) = b
output_in (stands_at w ∷ rest) = output_in rest
output_in (refused f ∷ rest) = output_in rest

abbrev pub output_of : Protocol → ℕ → ℕ → ℕ
output_of p input draw =
    output_in (session p empty_table (0 ∷ 0 ∷ []) (lay input ∷ step draw ∷ turn_up ∷ finish ∷ [])).answers

-- a refusal of the table, and where it stands
abbrev pub table_refusal : ℕ → ℕ → Answer
table_refusal number line = refused (record { number = number; layer = table_layer; line = line; place = 0 })

abbrev pub standing_at : Phase → ℕ → ℕ → Answer
standing_at phase line written = stands_at (record { phase = phase; line = line; written = written })

-- what their certificates and tables are
pub record Worked : Type 0 where
  pub xor_certified : certify xor 10 ≡ Ok (record { count = 4; wrong = None; leaking = None; classes = 0 ∷ 0 ∷ 0 ∷ 0 ∷ [] })
  pub xor_nine_rows : certify xor 9 ≡ Err (tree_fault 21 4 2)
  pub uneven_leaks : certify uneven_xor 10 ≡ Ok (record { count = 4; wrong = None; leaking = Some 2; classes = 0 ∷ 1 ∷ 0 ∷ 1 ∷ [] })
  pub last_line_wrong : certify wrong_xor 10 ≡ Ok (record { count = 4; wrong = Some 3; leaking = None; classes = 0 ∷ 0 ∷ 0 ∷ 0 ∷ [] })
  pub no_branch : certify short_xor 10 ≡ Err (tree_fault 20 3 1)
  pub trick_certified : certify trick 100 ≡ Ok (record { count = 12; wrong = None; leaking = None; classes = 0 ∷ 0 ∷ 0 ∷ 3 ∷ [] })
  pub rearranged_certified :
      certify rearranged_xor 18 ≡ Ok (record { count = 6; wrong = None; leaking = None; classes = 0 ∷ 0 ∷ 0 ∷ 0 ∷ [] })
  pub rearranged_played :
      (session rearranged_xor empty_table (9 ∷ 9 ∷ []) (lay 2 ∷ step 1 ∷ step 0 ∷ step 1 ∷ step 0 ∷ turn_up ∷ finish ∷ [])).answers
      ≡ began 2
      ∷ table_refusal 29 2
      ∷ stepped 3 ∷ stepped 4 ∷ stepped 5 ∷ turned 7 2 ∷ finished 1 ∷ []
  pub refused_in_order :
      (session xor empty_table (9 ∷ [])
      (step 0 ∷ turn_up ∷ finish ∷ where_now ∷ lay 4 ∷ lay 3 ∷ lay 4 ∷ turn_up ∷ finish ∷ step 2 ∷ step 0 ∷ step 0 ∷ turn_up ∷ where_now ∷ [])
      ).answers
      ≡ table_refusal 24 0
      ∷ table_refusal 24 0
      ∷ table_refusal 24 0
      ∷ standing_at empty 0 0
      ∷ table_refusal 26 0
      ∷ began 2
      ∷ table_refusal 25 2
      ∷ table_refusal 28 2
      ∷ table_refusal 28 2
      ∷ table_refusal 29 2
      ∷ stepped 3
      ∷ table_refusal 28 3
      ∷ table_refusal 30 3
      ∷ standing_at running 3 0
      ∷ []
  pub refused_when_ended :
      (session xor empty_table (9 ∷ 9 ∷ [])
      (lay 0 ∷ step 0 ∷ turn_up ∷ finish ∷ step 0 ∷ turn_up ∷ finish ∷ lay 0 ∷ where_now ∷ [])).answers
      ≡ began 2
      ∷ stepped 3
      ∷ turned 4 2
      ∷ finished 0
      ∷ table_refusal 27 4
      ∷ table_refusal 27 4
      ∷ table_refusal 27 4
      ∷ table_refusal 25 4
      ∷ standing_at ended 4 2
      ∷ []
  pub turn_without_branch :
      (session short_xor empty_table (9 ∷ 9 ∷ []) (lay 3 ∷ step 0 ∷ turn_up ∷ where_now ∷ [])).answers
      ≡ began 2 ∷ stepped 3 ∷ table_refusal 31 3 ∷ standing_at running 3 0 ∷ []
  pub pair_reads_neither :
      (session neither_xor empty_table (9 ∷ 9 ∷ []) (lay 1 ∷ step 0 ∷ turn_up ∷ finish ∷ where_now ∷ [])).answers
      ≡ began 2 ∷ stepped 3 ∷ turned 5 2 ∷ table_refusal 31 5 ∷ standing_at running 5 2 ∷ []
  pub neither_wrong : wrong_in neither_xor ≡ 3
  -- the card in slot s goes to slot number s of the images
  pub permuted : moved (permuting (1 ∷ 2 ∷ 0 ∷ 3 ∷ []) 3) 0 (5 ∷ 6 ∷ 7 ∷ 8 ∷ []) ≡ 7 ∷ 5 ∷ 6 ∷ 8 ∷ []
  pub xor_played :
      session xor empty_table (9 ∷ 9 ∷ 9 ∷ []) (lay 1 ∷ step 2 ∷ step 1 ∷ turn_up ∷ finish ∷ [])
      ≡ record {
        answers = began 2
            ∷ table_refusal 29 2
            ∷ stepped 3 ∷ turned 4 2 ∷ finished 1 ∷ [];
        table = record { phase = ended; line = 4; cards = 0 ∷ 1 ∷ 1 ∷ 0 ∷ 0 ∷ 0 ∷ 0 ∷ 0 ∷ 0 ∷ 0 ∷ 0 ∷ 0 ∷ []; written = 2 };
        bytes = 0 ∷ 1 ∷ 9 ∷ [];
      }
