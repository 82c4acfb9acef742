-- What `prepare` asks of the functions that it calls, and what it leaves, once checks 1 to 6 pass.
use mathlib.Core.Path.{◌≡◌, refl, sym, ap, ◌∙◌}
use mathlib.Core.Bool.{true, false}
use mathlib.Core.Option.{none}
use mathlib.Core.List.{List, [], ◌++◌}
use Prim.Native.Nat.{ℕ, ◌+◌, ◌*◌, ◌≤◌}
use native.Mathlib.Omega.{arith}
use lib.IntN.{ℤ, pos}
use lib.ListN.{length, take, drop, replicate, length-append}
use lib.Seq.{take_at, drop_at}
use Rattle.base_model.specs.Answers.{first, reply_of}
use Rattle.base_model.specs.declared.Rect.{Rect}
use Rattle.base_model.specs.declared.Refusal.{Refusal}
use Rattle.std.specs.Prelude.{Result, Ok, Err}
use Rattle.std.specs.Result.{is_err}
use Rattle.call_clear.proofs.Cleared.{cleared_laid}
use Rattle.ground_rects.specs.Rects.{nonempty}
use Rattle.ground_rects.specs.Windows.{width, height, centres, window_fits}
use Rattle.ground_rects.proofs.Windows.{framed, fits_larger}
use Rattle.ground_baseline.specs.Baseline.{Map, map_fits}
use Rattle.ground_baseline.specs.Stamps.{Checked}
use Rattle.ground_baseline.proofs.Marks.{mapped}
use Rattle.rule_routes.specs.Edges.{Step}
use Rattle.rule_calls.specs.Areas.{Work, work_in, counts_length, laid, cleared}
use Rattle.rule_calls.specs.Calls.{Preparation, prepare_checks, prepare_over}
use Rattle.rule_calls.proofs.Back.{laid_none, laid_clear}
use Rattle.call_passage.specs.Passages.{passage_over, PassageReady}
use Rattle.call_prepare.proofs.Apart.{passed, marks_of, length_baseline, laid_whole, prepared_by, prepared_by_lem}

-- a map that fits has at most 8,192 pixels each way, and its window fits one of 8,192 square
pixels : (m : Map) → map_fits m ≡ true → (8 * m.across ≤ 8192) × (8 * m.down ≤ 8192)
pixels m e = let k = mapped m e in (omega arith, omega arith)

pub window_wide : (m : Map) (w : Rect) → map_fits m ≡ true → window_fits (8 * m.across) (8 * m.down) w ≡ true → window_fits 8192 8192 w ≡ true
window_wide m w e f = let k = pixels m e in fits_larger (8 * m.across) (8 * m.down) 8192 8192 w k.0 k.1 f

-- the working areas with so many entries of each cleared
pub emptied_is : (w : Rect) (a : Work) (c : ℕ) → c ≡ centres w → {counts : List ℤ} {map queue predecessors route : List ℕ}
    → counts ≡ replicate ((width w + 1) * (height w + 1)) (pos 0) ++ drop ((width w + 1) * (height w + 1)) a.counts → map ≡ replicate c 0 ++ drop c a.map
    → queue ≡ replicate c 0 ++ drop c a.queue → predecessors ≡ replicate c 0 ++ drop c a.predecessors → route ≡ replicate c 0 ++ drop c a.route
    → work_in counts map queue predecessors route ≡ cleared w a
unfolding counts_length
emptied_is w a c k f g h i j = rw (cleared_laid w a, f, g, h, i, j, k) refl

module _ (q : Preparation) (b : List ℕ) (a : Work) (e : first (prepare_checks q b a) ≡ none) where
  pub wide : window_fits 8192 8192 q.window ≡ true
  wide = let p = passed q b a e in window_wide q.map q.window p.map_fits_lem p.window

  pub filled : nonempty q.window ≡ true
  filled = (framed 8192 8192 q.window wide).filled

  pub asks_marking : Checked q.map q.obstacles q.window q.mover (length a.counts) (length b)
  unfolding counts_length
  asks_marking =
      let p = passed q b a e in
      record {
        map_fits_lem = p.map_fits_lem;
        window = p.window;
        mover = p.mover;
        obstacles = p.obstacles;
        counts_room_lem = p.counts_room;
        baseline_room_lem = p.baseline_room;
      }

  pub rooms : (centres q.window ≤ length a.map) × (centres q.window ≤ length a.queue) × (centres q.window ≤ length a.predecessors) × (centres q.window ≤ length a.route)
  rooms = let p = passed q b a e in (p.map_room, p.queue_room, p.predecessors_room, p.route_room)

  -- once the baseline is marked, c centres of it
  module _ (c : ℕ) (counted : c ≡ centres q.window) (base : List ℕ) (marked : base ≡ marks_of q ++ drop (centres q.window) b) where
    base_part : take c base ≡ marks_of q
    base_part = rw (counted, marked) (take_at (marks_of q) (drop (centres q.window) b) (centres q.window) (length_baseline q))

    base_rest : drop c base ≡ drop (centres q.window) b
    base_rest = rw (counted, marked) (drop_at (marks_of q) (drop (centres q.window) b) (centres q.window) (length_baseline q))

    pub base_room : c ≤ length base
    base_room = rw (counted, marked) (omega (arith, length-append (marks_of q) (drop (centres q.window) b), length_baseline q))

    pub part_length : length (take c base) ≡ c
    part_length = ap length base_part ∙ length_baseline q ∙ sym counted

    module _ (w : Work) (emptied : w ≡ cleared q.window a) where
      pub asks_passage : PassageReady q.window q.start q.end (take c base) w.queue w.predecessors w.route
      unfolding cleared
      asks_passage =
          let p = passed q b a e in
          let n = centres q.window in
          record {
            window = wide;
            start_in = p.start_in;
            end_in = p.end_in;
            base_room = omega (arith, part_length, counted);
            queue_clear = ap (λ (x : Work). take n x.queue) emptied ∙ laid_clear n a.queue;
            predecessors_clear = ap (λ (x : Work). take n x.predecessors) emptied ∙ laid_clear n a.predecessors;
            route_clear = ap (λ (x : Work). take n x.route) emptied ∙ laid_clear n a.route;
          }

      -- once the passage is checked
      module _ (steps : List Step) (answer : Result Unit Refusal) (said : reply_of answer ≡ passage_over steps q.window q.start q.end (take c base)) where
        comes_to : prepare_over steps q b a ≡ prepared_by q b a (reply_of answer)
        comes_to = prepared_by_lem steps q b a e ∙ ap (prepared_by q b a) (sym (said ∙ rw base_part refl))

        by_err : (o : Result Unit Refusal) → is_err o ≡ true
            → prepared_by q b a (reply_of o) ≡ record { answer = reply_of o; baseline = laid (centres q.window) [] b; work = cleared q.window a }
        unfolding prepared_by reply_of
        by_err (Ok x) h = absurd (cc)
        by_err (Err r) h = refl

        by_ok : (o : Result Unit Refusal) → is_err o ≡ false
            → prepared_by q b a (reply_of o) ≡ record { answer = reply_of o; baseline = laid (centres q.window) (marks_of q) b; work = cleared q.window a }
        unfolding prepared_by reply_of
        by_ok (Ok x) h = refl
        by_ok (Err r) h = absurd (cc)

        pub leaves_zeros : is_err answer ≡ true → (base' : List ℕ) → base' ≡ replicate c 0 ++ drop c base
            → prepare_over steps q b a ≡ record { answer = reply_of answer; baseline = base'; work = w }
        leaves_zeros h base' z =
            let zeros : base' ≡ laid (centres q.window) [] b = z ∙ rw (base_rest, counted) (sym (laid_none (centres q.window) b)) in
            comes_to ∙ by_err answer h ∙ rw (emptied, zeros) refl

        pub leaves_marks : is_err answer ≡ false → prepare_over steps q b a ≡ record { answer = reply_of answer; baseline = base; work = w }
        leaves_marks h =
            let whole : base ≡ laid (centres q.window) (marks_of q) b = marked ∙ sym (laid_whole (centres q.window) (marks_of q) b (length_baseline q)) in
            comes_to ∙ by_ok answer h ∙ rw (emptied, whole) refl
