-- Tables of cases that the checker computes: what the calls on numbers answer and leave, and where each value of a record stands among its numbers.
use Prim.Native.Nat.{ℕ}
use mathlib.Core.Path.{◌≡◌, refl}
use mathlib.Core.Bool.{true}
use mathlib.Core.List.{List, [], ◌∷◌, ◌++◌, map}
use lib.IntN.{ℤ, pos}
use lib.ListN.{replicate, take}
use Rattle.base_laws.specs.Lists.{span}
use Rattle.base_laws.specs.Fill.{filled}
use Rattle.base_model.specs.Answers.{verdict_number}
use Rattle.std.specs.Prelude.{None, Some}
use Rattle.base_model.specs.declared.Limits.{Limits}
use Rattle.base_model.specs.declared.Record.{Record}
use Rattle.base_model.specs.declared.Verdict.TheVariants.{Slots, Overlap, EndCovered, Open, Spare, Shut, Wall}
use Rattle.rule_covers.specs.Covers.{one_more, may_rise, one_less, may_fall, off_centre, changed, may_change, change_checks, change_call, cover_call, lift_call}
use Rattle.rule_routes.specs.Edges.{original_steps}
use Rattle.rule_layouts.specs.Inputs.{Inputs}
use Rattle.rule_calls.specs.Areas.{Work, Store}
use Rattle.rule_calls.proofs.Computing.{computing}
use Rattle.rule_calls.proofs.Refusals.{zeroed}
use Rattle.rule_calls.proofs.Drive.{Row, ◌gives◌, gots, wants, at, box, bounds, place, limits, work_for, store_for, still0, places_p, W, given, open0, alone, good, driving}
use Rattle.call_read.specs.Told.{number_in, index_in}
use Rattle.walls_numbers.specs.Numbers.{allow_from, query_from, one_where, record_numbers, record_from, numbers_after, judged_answer, judged_index, judged_verdict, judged_ground}
use Rattle.walls_numbers.specs.Left.{prepare_on, LeftChanged, changed_by, cover_on, lift_on}
use Rattle.walls_numbers.specs.Left.{Left, fifty, begin_checks_on, numbers_fit, step_checks_on, turned, left_by, begin_on, step_on, LeftRead, read_checks_on, place_of, read_on, judge_on}

-- a name under which the calls on numbers unfold
unfoldable pub numbering : ℕ
unfolding computing driving number_in index_in allow_from query_from one_where record_numbers record_from numbers_after verdict_number judged_answer judged_index judged_verdict judged_ground
    one_more may_rise one_less may_fall off_centre changed may_change change_checks change_call cover_call lift_call filled changed_by cover_on lift_on
    prepare_on judge_on fifty begin_checks_on numbers_fit step_checks_on turned left_by begin_on step_on read_checks_on place_of read_on
numbering = 0

-- ---- values
-- 0 is nobody, any other number a mover
allowed : allow_from 0 5 6 7 8 ∷ allow_from 1 5 6 7 8 ∷ allow_from 2 5 6 7 8 ∷ [] ≡ None ∷ Some (bounds 5 6 7 8) ∷ Some (bounds 5 6 7 8) ∷ []
unfolding numbering
allowed = refl

-- each of the seventeen numbers of a query in its place
queried : query_from (pos 1) (pos 2) (pos 3) (pos 4) 5 6 7 8 9 10 11 12 1 14 15 16 17
    ≡ record { window = box 1 2 3 4; start = at 5 6; end = at 7 8; block = bounds 9 10 11 12; allow = Some (bounds 14 15 16 17) }
unfolding numbering
queried = refl

verdicts : map verdict_number (Slots ∷ Overlap ∷ EndCovered ∷ Open ∷ Spare ∷ Shut ∷ Wall ∷ []) ≡ 1 ∷ 2 ∷ 3 ∷ 4 ∷ 5 ∷ 6 ∷ 7 ∷ []
unfolding numbering
verdicts = refl

-- a record with 100 + k at place k, but for pending
made : Record
made = record {
  reason = 100;
  evaluations = 101;
  placements = 102;
  layouts = 103;
  lists = 104;
  pending = true;
  routes = span 106 32;
  lengths = span 138 6;
  nexts = span 144 6;
}

made_laid : record_numbers made ≡ 100 ∷ 101 ∷ 102 ∷ 103 ∷ 104 ∷ 1 ∷ span 106 44
unfolding numbering made
made_laid = refl

-- read back, past the fiftieth nothing is looked at
made_back : record_from (100 ∷ 101 ∷ 102 ∷ 103 ∷ 104 ∷ 1 ∷ span 106 45) ≡ made
unfolding numbering made
made_back = refl

-- ---- a search of input P
l : Limits
l = limits 5 2

-- its numbers after two evaluations, with this pending: a layout, and a list of two entries, its next 1
held : (pending : ℕ) → List ℕ
held p = 1 ∷ 2 ∷ 3 ∷ 1 ∷ 1 ∷ p ∷ replicate 32 0 ++ 2 ∷ replicate 5 0 ++ 1 ∷ replicate 5 0

areas : Store
areas = record { lists = 0 ∷ 1 ∷ replicate 16 0; visited = replicate 7 0 ++ 1 ∷ replicate 27 0; layouts = 1 ∷ replicate 13 0; points = [] }

-- placement 1 names no spec
spoilt : Inputs
spoilt = alone (good ∷ place 6 0 W W ∷ good ∷ [])

-- the blocked mover reaches so far to the left, and its baseline has such bytes
ground : (reach byte : ℕ) → Inputs
ground m b = given W (at 0 1) (at 4 1) (bounds m 0 0 0) None (2 ∷ []) places_p (replicate 15 b) []

on_begin : Inputs → (numbers : List ℕ) → Left
on_begin i ns = begin_on original_steps i l ns (work_for W) (store_for i l)

on_step : Inputs → (numbers : List ℕ) → Left
on_step i ns = step_on original_steps i l ns 1 (work_for W) areas

-- the original's table without its last number
short : List ℤ
short = take 15 original_steps

on_read : Inputs → (numbers : List ℕ) → (k : ℕ) → LeftRead
on_read i ns k = read_on i l ns k areas

-- ---- what is answered: the number and the index
told : Left → ℕ × ℕ
told o = (o.answer, o.index)

answering : List (Row (ℕ × ℕ))
answering =
    -- fewer than fifty numbers: 6, after 4 and before 7
    (told (on_begin (ground 0 0) (replicate 49 9)) gives (6, 0))
    ∷ (told (on_begin (ground 257 0) (replicate 49 9)) gives (4, 0))
    ∷ (told (on_begin (ground 0 2) (replicate 49 9)) gives (6, 0))
    ∷ (told (on_begin (ground 0 2) (replicate 50 9)) gives (7, 0))
    ∷ (told (on_begin spoilt (replicate 50 9)) gives (15, 1))
    ∷ (told (on_step (alone places_p) (take 49 (held 0))) gives (6, 0))
    ∷ (told (on_step spoilt (take 49 (held 2))) gives (6, 0))
    -- a pending above 1: 16, after 15
    ∷ (told (on_step (alone places_p) (held 2)) gives (16, 0))
    ∷ (told (on_step spoilt (held 2)) gives (15, 1))
    ∷ (told (on_step (alone places_p) (held 1)) gives (0, 0))
    -- a table that does not fit: 19, before all of these
    ∷ (told (begin_on short (ground 257 2) l (replicate 49 9) (work_for W) areas) gives (19, 0))
    ∷ (told (step_on short spoilt l (take 49 (held 2)) 1 (work_for W) areas) gives (19, 0))
    ∷ []

answered : gots answering ≡ wants answering
unfolding numbering l held areas spoilt ground on_begin on_step short told answering
answered = refl

place_at : (answer index first count : ℕ) → LeftRead
place_at a x f c = record { answer = a; index = x; first = f; count = c }

-- with an allowed mover: two layouts, with routes of 2 points and 1
routed : (k : ℕ) → LeftRead
routed k =
    read_on (given W (at 0 1) (at 4 1) still0 (Some still0) (2 ∷ []) places_p open0 open0) l (4 ∷ 2 ∷ 3 ∷ 2 ∷ 0 ∷ 0 ∷ 2 ∷ 1 ∷ replicate 42 0) k
    (record { lists = replicate 18 0; visited = replicate 35 0; layouts = replicate 14 0; points = replicate 60 9 })

reading : List (Row LeftRead)
reading =
    (on_read (alone places_p) (held 0) 0 gives place_at 0 0 0 0)
    ∷ (on_read (alone places_p) (take 49 (held 0)) 0 gives place_at 6 0 0 0)
    -- 16 for a pending above 1, after 15 and before 17
    ∷ (on_read (alone places_p) (held 2) 0 gives place_at 16 0 0 0)
    ∷ (on_read spoilt (held 2) 0 gives place_at 15 1 0 0)
    ∷ (on_read (alone places_p) (held 2) 1 gives place_at 16 0 0 0)
    ∷ (on_read (alone places_p) (held 0) 1 gives place_at 17 0 0 0)
    ∷ (routed 0 gives place_at 0 0 0 2)
    ∷ (routed 1 gives place_at 0 0 2 1)
    ∷ (routed 2 gives place_at 17 0 0 0)
    ∷ []

places_told : gots reading ≡ wants reading
unfolding numbering l held areas spoilt on_read place_at routed reading
places_told = refl

-- ---- what is left
leaves : (answer index : ℕ) → (numbers : List ℕ) → Work → Store → Left
leaves a x ns w s = record { answer = a; index = x; numbers = ns; work = w; store = s }

-- 6, 16 and 19 write nothing; 15 clears the working areas of a begin
leaving : List (Row Left)
leaving =
    (on_begin (ground 0 0) (replicate 49 9) gives leaves 6 0 (replicate 49 9) (work_for W) (store_for (ground 0 0) l))
    ∷ (on_begin spoilt (replicate 51 9) gives leaves 15 1 (replicate 51 9) zeroed (store_for spoilt l))
    ∷ (on_step (alone places_p) (take 49 (held 0)) gives leaves 6 0 (take 49 (held 0)) (work_for W) areas)
    ∷ (on_step (alone places_p) (held 2 ++ 9 ∷ []) gives leaves 16 0 (held 2 ++ 9 ∷ []) (work_for W) areas)
    ∷ (begin_on short (ground 0 0) l (replicate 51 9) (work_for W) areas gives leaves 19 0 (replicate 51 9) (work_for W) areas)
    ∷ (step_on short (alone places_p) l (held 0) 1 (work_for W) areas gives leaves 19 0 (held 0) (work_for W) areas)
    -- an accepted begin lays fifty numbers and keeps the next
    ∷ (on_begin (ground 0 0) (replicate 51 9)
    gives leaves 0 0 (1 ∷ 0 ∷ 3 ∷ 0 ∷ 0 ∷ 1 ∷ replicate 32 0 ++ replicate 6 0 ++ replicate 6 0 ++ 9 ∷ []) zeroed
    (record { lists = replicate 18 0 ++ 9 ∷ []; visited = replicate 35 0 ++ 9 ∷ []; layouts = replicate 14 0 ++ 9 ∷ []; points = 9 ∷ [] }))
    -- a step evaluates placement 1 alone and makes a second list, of one entry
    ∷ (on_step (alone places_p) (held 0 ++ 9 ∷ [])
    gives leaves 0 0 (1 ∷ 3 ∷ 3 ∷ 1 ∷ 2 ∷ 0 ∷ replicate 32 0 ++ 2 ∷ 1 ∷ replicate 4 0 ++ 2 ∷ replicate 5 0 ++ 9 ∷ []) zeroed
    (record {
      lists = 0 ∷ 1 ∷ 0 ∷ 2 ∷ replicate 14 0;
      visited = replicate 7 0 ++ 1 ∷ replicate 6 0 ++ 1 ∷ 1 ∷ replicate 19 0;
      layouts = 1 ∷ replicate 13 0;
      points = [];
    }))
    ∷ []

left : gots leaving ≡ wants leaving
unfolding numbering l held areas spoilt ground on_begin on_step short zeroed leaves leaving
left = refl

-- ---- preparing and judging
-- a mover on P's window whose left bound is 0, 1 or 257
prepared : (table : List ℤ) (reach : ℕ) → ℕ × List ℕ
prepared table reach =
    let o = prepare_on table
    (record { map = record { across = 1; down = 1; cells = 1 ∷ [] }; obstacles = []; window = W; start = at 0 1; end = at 4 1; mover = bounds reach 0 0 0 })
    (replicate 16 9) (work_for W) in
    (o.answer, o.baseline)

preparations : prepared original_steps 0 ∷ prepared original_steps 1 ∷ prepared original_steps 257 ∷ prepared short 257 ∷ []
    ≡ (0, replicate 15 0 ++ 9 ∷ []) ∷ (7, replicate 15 0 ++ 9 ∷ []) ∷ (4, replicate 16 9) ∷ (19, replicate 16 9) ∷ []
unfolding numbering short prepared
preparations = refl

-- a wall with the ground that it leaves; a refusal with its index; two without
judgements :
    judge_on original_steps (alone places_p) (0 ∷ []) (work_for W)
    ∷ judge_on original_steps spoilt (0 ∷ []) (work_for W)
    ∷ judge_on original_steps (alone places_p) (1 ∷ 0 ∷ []) (work_for W)
    ∷ judge_on short spoilt (1 ∷ 0 ∷ []) (work_for W)
    ∷ []
    ≡ record { answer = 0; index = 0; verdict = 7; ground = 6; work = zeroed }
    ∷ record { answer = 15; index = 1; verdict = 0; ground = 0; work = work_for W }
    ∷ record { answer = 17; index = 0; verdict = 0; ground = 0; work = work_for W }
    ∷ record { answer = 19; index = 0; verdict = 0; ground = 0; work = work_for W }
    ∷ []
unfolding numbering spoilt short zeroed
judgements = refl

-- ---- covering and lifting: the answer, and the baseline with an entry past its centres
leaving_counts : ℕ → List ℕ → LeftChanged
leaving_counts a b = record { answer = a; baseline = b }

-- the middle column of W, for a mover that reaches 1 to the left
column : List ℕ
column = 0 ∷ 0 ∷ 1 ∷ 1 ∷ 0 ∷ []

counting : List (Row LeftChanged)
counting =
    (cover_on W (bounds 1 0 0 0) (box 2 0 3 3) (replicate 15 0 ++ 9 ∷ []) gives leaving_counts 0 (column ++ column ++ column ++ 9 ∷ []))
    ∷ (lift_on W (bounds 1 0 0 0) (box 2 0 3 3) (column ++ column ++ column ++ 9 ∷ []) gives leaving_counts 0 (replicate 15 0 ++ 9 ∷ []))
    ∷ (cover_on (box 0 0 0 0) (bounds 1 0 0 0) (box 2 0 3 3) [] gives leaving_counts 2 [])
    ∷ (cover_on W (bounds 257 0 0 0) (box 2 0 3 3) [] gives leaving_counts 4 [])
    ∷ (lift_on W (bounds 1 0 0 0) (box 2 0 2 3) (replicate 14 0) gives leaving_counts 6 (replicate 14 0))
    -- 15 without an index
    ∷ (lift_on W (bounds 1 0 0 0) (box 2 0 2 3) open0 gives leaving_counts 15 open0)
    ∷ (cover_on W (bounds 1 0 0 0) (box 2 0 3 3) (replicate 15 255) gives leaving_counts 20 (replicate 15 255))
    ∷ (lift_on W (bounds 1 0 0 0) (box 2 0 3 3) open0 gives leaving_counts 20 open0)
    ∷ []

counted : gots counting ≡ wants counting
unfolding numbering leaving_counts column counting
counted = refl
