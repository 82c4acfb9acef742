-- Words for tables of cases that the checker computes through the calls: a search's inputs, its drive (prepare block, prepare allow, begin, then steps), and what
-- is then shown. Every area lent is one entry longer than its length and holds nines.
use Prim.Native.Nat.{ℕ, suc, ◌*◌}
use mathlib.Core.Bool.{true}
use mathlib.Core.Option.{Option, none, some}
use mathlib.Core.List.{List, [], ◌∷◌, map}
use lib.IntN.{ℤ, pos}
use lib.ListN.{length, get_or, replicate}
use Rattle.base_laws.specs.Lists.{below}
use Rattle.base_model.specs.Answers.{Said, first}
use Rattle.base_model.specs.declared.Rect.{Rect}
use Rattle.base_model.specs.declared.Bounds.{Bounds}
use Rattle.base_model.specs.declared.Position.{Position}
use Rattle.base_model.specs.declared.Placement.{Placement}
use Rattle.base_model.specs.Allow.{Allow}
use Rattle.std.specs.Prelude.{None, Some}
use Rattle.base_model.specs.declared.Limits.{Limits}
use Rattle.ground_rects.specs.Rects.{rect}
use Rattle.ground_rects.specs.Windows.{centres}
use Rattle.ground_baseline.specs.Baseline.{Map}
use Rattle.rule_routes.specs.Edges.{original_steps}
use Rattle.rule_search.specs.State.{Reason}
use Rattle.rule_layouts.specs.Inputs.{Inputs}
use Rattle.rule_calls.specs.Areas.{Work, Store, counts_length, points_length, row_of, reason_of}
use Rattle.rule_calls.specs.Checks.{query_checks}
use Rattle.rule_calls.specs.Calls.{Prepared, prepare_checks, prepare_call, After, begin_call, step_call, ReadOut, read_call, Judgement, judge_call}

-- a case and what it must come to
pub record Row (A : Type 0) : Type 0 where
  pub got : A
  pub want : A

unfoldable pub ◌gives◌ : {A : Type 0} → A → A → Row A
a gives b = record { got = a; want = b }

infix 3 ◌gives◌
unfoldable pub gots : {A : Type 0} → List (Row A) → List A
gots [] = []
gots (r ∷ rs) = r.got ∷ gots rs

unfoldable pub wants : {A : Type 0} → List (Row A) → List A
wants [] = []
wants (r ∷ rs) = r.want ∷ wants rs

-- ---- values
unfoldable pub at : ℕ → ℕ → Position
at x y = record { x = x; y = y }

unfoldable pub box : ℕ → ℕ → ℕ → ℕ → Rect
box l t r b = rect (pos l) (pos t) (pos r) (pos b)

unfoldable pub bounds : ℕ → ℕ → ℕ → ℕ → Bounds
bounds l t r b = record { left = l; top = t; right = r; bottom = b }

unfoldable pub place : (spec group : ℕ) → Rect → Rect → Placement
place s g f c = record { spec = s; group = g; tile = record { x = 0; y = 0 }; footprint = f; collision = c }

-- footprint and collision alike, of the first group
unfoldable pub plain : Rect → Placement
plain r = place 0 0 r r

unfoldable pub limits : (states results : ℕ) → Limits
limits s r = record { states = s; results = r }

-- ---- areas
unfoldable pub nines : ℕ → List ℕ
nines n = replicate (suc n) 9

unfoldable pub work_for : Rect → Work
work_for w = record {
  counts = replicate (suc (counts_length w)) (pos 9);
  map = nines (centres w);
  queue = nines (centres w);
  predecessors = nines (centres w);
  route = nines (centres w);
}

unfoldable pub store_for : Inputs → Limits → Store
store_for i l = record {
  lists = nines (6 * length i.places);
  visited = nines (7 * l.states);
  layouts = nines (7 * l.results);
  points = nines (points_length i l);
}

-- ---- a drive
pub record Case : Type 0 where
  pub map : Map
  pub obstacles : List ℤ
  pub window : Rect
  pub start : Position
  pub end : Position
  pub block : Bounds
  pub allow : Allow
  pub limits : Limits
  pub groups : List ℕ
  pub places : List Placement

unfoldable pub prepared : Case → Bounds → Prepared
prepared s m = prepare_call original_steps
    (record { map = s.map; obstacles = s.obstacles; window = s.window; start = s.start; end = s.end; mover = m })
    (nines (centres s.window)) (work_for s.window)

unfoldable pub allow_base_of : Case → Allow → List ℕ
allow_base_of s None = []
allow_base_of s (Some m) = (prepared s m).baseline

unfoldable pub allow_answer_of : Case → Allow → Option Said
allow_answer_of s None = none
allow_answer_of s (Some m) = (prepared s m).answer

unfoldable pub inputs_of : Case → Inputs
inputs_of s = record {
  query = record { window = s.window; start = s.start; end = s.end; block = s.block; allow = s.allow };
  groups = s.groups;
  places = s.places;
  block_base = (prepared s s.block).baseline;
  allow_base = allow_base_of s s.allow;
}

unfoldable pub begins : Inputs → Limits → After
begins i l = begin_call original_steps i l (work_for i.query.window) (store_for i l)

unfoldable pub stepped : Inputs → Limits → List ℕ → After → After
stepped i l [] a = a
stepped i l (n ∷ ns) a = stepped i l ns (step_call original_steps i l a.rec n a.work a.store)

-- ---- what is shown
-- a layout's row, and all that reading it gives: an answer and points
pub record ShownLayout : Type 0 where
  pub members : List ℕ
  pub reading : ReadOut

-- with an accepted reading
unfoldable pub layout : List ℕ → List ℕ → ShownLayout
layout m ps = record { members = m; reading = record { answer = none; points = ps } }

pub data Shown : Type 0 where
  refused : Said → Shown
  judged : Judgement → Shown
  passed : Shown
  result : Reason → (evaluations placements : ℕ) → List ShownLayout → Shown

unfoldable pub refused_with : ℕ → Shown
refused_with n = refused (record { number = n; values = [] })

unfoldable pub shown_by : Inputs → Limits → Option Said → After → Shown
shown_by i l (some r) a = refused r
shown_by i l none a =
    result (reason_of a.rec.reason) a.rec.evaluations a.rec.placements
    (map (λ (k : ℕ). record { members = row_of a.store.layouts k; reading = read_call i l a.rec k a.store }) (below a.rec.layouts))

-- the first refusal of prepare, prepare and begin, else what the steps come to
unfoldable pub drive : Case → List ℕ → Shown
drive s ns =
    let i : Inputs = inputs_of s in
    let a : After = begins i s.limits in
    let b : After = stepped i s.limits ns a in
    elim (first ((prepared s s.block).answer ∷ allow_answer_of s s.allow ∷ a.answer ∷ []))
    [ some r ↦ refused r | none ↦ shown_by i s.limits b.answer b ]

unfoldable pub judging : Case → List ℕ → Shown
judging s m = judged (judge_call original_steps (inputs_of s) m (work_for s.window)).answer

unfoldable pub answered : Option Said → Shown
answered none = passed
answered (some r) = refused r

-- ---- input P (RULES 9.7)
unfoldable pub still0 : Bounds
still0 = bounds 0 0 0 0

unfoldable pub on_open_cell : Rect → Position → Position → Bounds → Allow → Limits → List ℕ → List Placement → Case
on_open_cell w a b block allow l groups ps = record {
  map = record { across = 1; down = 1; cells = 1 ∷ [] };
  obstacles = [];
  window = w;
  start = a;
  end = b;
  block = block;
  allow = allow;
  limits = l;
  groups = groups;
  places = ps;
}

unfoldable pub places_p : List Placement
places_p = plain (box 2 0 3 3) ∷ plain (box 2 0 3 2) ∷ plain (box 2 2 3 3) ∷ []

unfoldable pub P : Allow → (states results : ℕ) → List ℕ → List Placement → Case
P allow states results groups ps = on_open_cell (box 0 0 5 3) (at 0 1) (at 4 1) still0 allow (limits states results) groups ps

unfoldable pub P0 : Case
P0 = P None 100 32 (2 ∷ []) places_p

-- ---- inputs on P's window
unfoldable pub W : Rect
W = box 0 0 5 3

unfoldable pub refused_by : ℕ → List ℕ → Option Said
refused_by n vs = some (record { number = n; values = vs })

unfoldable pub given : Rect → Position → Position → Bounds → Allow → List ℕ → List Placement → List ℕ → List ℕ → Inputs
given w a b m allow groups ps base other = record {
  query = record { window = w; start = a; end = b; block = m; allow = allow };
  groups = groups;
  places = ps;
  block_base = base;
  allow_base = other;
}

unfoldable pub open0 : List ℕ
open0 = replicate 15 0

-- P's window over open ground, without an allowed mover
unfoldable pub alone : List Placement → Inputs
alone ps = given W (at 0 1) (at 4 1) still0 None (2 ∷ []) ps open0 []

unfoldable pub good : Placement
good = plain (box 2 0 3 3)

-- ---- check 2 alone: prepare's, on a map of so many cells each way, and begin's
unfoldable pub prepare_window : (across down : ℕ) → Rect → Option Said
prepare_window across down w = get_or (prepare_checks
    (record { map = record { across = across; down = down; cells = [] }; obstacles = []; window = w; start = at 0 0; end = at 0 0; mover = still0 })
    [] (work_for W)) 1 none

unfoldable pub begin_window : Rect → Option Said
begin_window w = get_or (query_checks (given w (at 0 0) (at 0 0) still0 None [] [] [] []) true) 0 none

-- ---- a name under which all of this unfolds
unfoldable pub driving : ℕ
unfolding ◌gives◌ gots wants at box bounds place plain limits nines work_for store_for prepared allow_base_of allow_answer_of inputs_of begins stepped layout refused_with
    shown_by drive judging answered still0 on_open_cell places_p P P0 W refused_by given open0 alone good prepare_window begin_window
driving = 0
