-- `visit`: what its calls ask, and what it leaves by the answer of the evaluation.
use Prim.Native.Nat.{ℕ, ◌+◌, ◌-◌, ◌*◌, ◌≤◌, ◌<◌}
use mathlib.Core.Path.{◌≡◌, refl, sym, ◌∙◌, ap, ap₂, subst}
use mathlib.Core.Bool.{Bool, true}
use mathlib.Core.List.{List, [], ◌∷◌, ◌++◌, map, reverse, reverse-reverse, Memᴰ}
use native.Mathlib.Omega.{arith}
use native.Mathlib.Nat.{mul-le-mul_right}
use lib.Dec.{leb, eqb}
use lib.ListN.{length, take, drop, get_or, replicate, length-take, length-drop}
use borrow.Author.Tests.{leb-true, leb-false, eqb-true, eqb-false}
use Rattle.base_laws.specs.Lists.{flat}
use Rattle.base_laws.specs.Fill.{zeros, over}
use Rattle.base_laws.proofs.Members.{either, get_d_member}
use Rattle.base_laws.proofs.Stores.{all_front, laid_cleared, part_same}
use Rattle.base_model.specs.declared.Record.{Record}
use Rattle.ground_rects.specs.Windows.{centres}
use Rattle.ground_rects.proofs.Windows.{framed}
use Rattle.rule_layouts.specs.Flat.{inputs_of}
use Rattle.rule_layouts.specs.Inputs.{places_of, board_of}
use Rattle.rule_layouts.specs.Explore.{Outcome, Nothing, Extend, Wall, explore}
use Rattle.rule_search.specs.State.{Running, Extensions, Layout, State, set_on, points_kept}
use Rattle.rule_search.specs.Frames.{Plan, advance}
use Rattle.rule_search.proofs.Moves.{held}
use Rattle.rule_search.proofs.Formed.{lines_fit, length_set_on}
use Rattle.rule_calls.specs.Areas.{Store, row, numbers, points_length, store_in}
use Rattle.rule_calls.specs.Calls.{plan_of}
use Rattle.search_rows.specs.Lay.{Stood, SomeStood}
use Rattle.base_laws.proofs.Blocks.{length_flat}
use Rattle.rule_layouts.specs.Fits.{Fits}
use Rattle.search_rows.proofs.Sets.{length_row, row_head}
use Rattle.search_turn.specs.Portion.{stack_of, Part, Ripe, kept_in, Listable, LookedAt, Listing, entered_rec, pushed_rec, listed_rec, stop_rec}
use Rattle.search_turn.proofs.Laying.{Summed, summed, as_pending, length_stack}
use Rattle.search_turn.proofs.Sights.{part_stood, behind, length_laid}
use Rattle.set_explore.specs.declared.Explored as answer
use Rattle.set_board.specs.Ready.{Ready}
use Rattle.set_explore.specs.Evaluation.{outcome_of, outcome_number, size_of, list_after, route_after, Evaluated}
use Rattle.rule_search.specs.Formed.{Fresh, FormedLists}
use Rattle.search_steps.specs.Terms.{Terms, inputs_under, count_in, board_in, plan_in, Given, Holds}
use Rattle.search_steps.proofs.Inside.{wall_inside}
use Rattle.search_steps.proofs.Stored.{kept_is, length_kept, members_of}
use Rattle.search_steps.proofs.Whole.{
  fitting,
  points_fit,
  holds_part,
  layouts_are_lem,
  points_are_lem,
  entered,
  visited_put,
  visited_room,
  lists_are_lem,
  v_nothing,
  v_extend,
  extend_room,
  extend_record,
  extend_lists,
  v_full,
  wall_room,
  v_wall,
}

-- a wall's route laid into a clear area and wiped
pub route_wiped : (c k : ℕ) (w route route' route'' : List ℕ) → route ≡ replicate c 0 → route' ≡ w ++ drop (length w) route → k ≡ length w
    → k ≤ c → route'' ≡ zeros k ++ drop k route' → route'' ≡ replicate c 0
route_wiped c k w route route' route'' e f q h d =
    d ∙ ap₂ (λ (n : ℕ) (x : List ℕ). zeros n ++ drop n x) q f ∙ laid_cleared 0 c route (all_front 0 c e) w (omega arith) ∙ e

pub by_ripe : (p : Plan) (P : State → Type 0) → ((ls : List Extensions) (v : List (List ℕ)) (ys : List Layout) → Fresh p ls v → P (held Running true ls v ys)) → (s : State) → Ripe p s → P s
by_ripe p P f s x = as_pending (λ s. Fresh p s.lists s.visited → P s) true f s x.running x.pending x.fresh

module _ (t : Terms) (given : Given t) (a₀ : Store) (s : State) (r : Record) (a : Store) (h : Holds t a₀ s r a) (ripe : Ripe (plan_in t) s) where
  pub part : Part (board_in t) (plan_in t) a₀.lists a₀.visited s r a.lists a.visited
  part = holds_part t a₀ s r a h

  pub sums : Summed (count_in t) s r
  sums = summed (count_in t) s r h.rec

  on : FormedLists (board_in t) true s.lists
  on = subst (λ (b : Bool). FormedLists (board_in t) b s.lists) ripe.pending h.good.formed.lists

  fits : Fits (board_in t).places (set_on s.lists)
  fits = lines_fit (board_in t) given.sound.at (plan_in t) given.sound.on given.sound.laid_out given.sound.six s.lists on

  abbrev rest : List ℕ
  rest = behind (board_in t) (plan_in t) t.limits (count_in t) (fitting t given) a₀.lists a₀.visited s r a.lists a.visited part

  pub stood : Stood a.lists r.placements (take r.lists r.nexts) (reverse s.lists) rest
  stood =
      subst (λ (k : ℕ). Stood a.lists k (take r.lists r.nexts) (reverse s.lists) rest) (sym sums.placements_are)
      (part_stood (board_in t) (plan_in t) t.limits (count_in t) (fitting t given) a₀.lists a₀.visited s r a.lists a.visited part (sums.pending_is ∙ ripe.pending))

  pub row_is : (set : List ℕ)
      → ((ms : List Extensions) (rest : List ℕ) → Stood a.lists r.placements (take r.lists r.nexts) ms rest → set ≡ row (set_on (reverse ms)))
      → set ≡ row (set_on s.lists)
  row_is set f = f (reverse s.lists) rest stood ∙ ap (λ (ls : List Extensions). row (set_on ls)) (reverse-reverse s.lists)

  pub ready : (m : List ℕ) (k : ℕ) → m ≡ set_on s.lists → k ≡ count_in t → Ready t.query t.groups t.numbers t.edges t.block_base t.allow_base t.steps m k
  unfolding board_of places_of
  ready m k em ek =
      subst (λ (x : List ℕ). Ready t.query t.groups t.numbers t.edges t.block_base t.allow_base t.steps x k) (sym em)
      (subst (λ (j : ℕ). Ready t.query t.groups t.numbers t.edges t.block_base t.allow_base t.steps (set_on s.lists) j) (sym ek)
      (given.ready (set_on s.lists) fits.is_set fits.named))

  pub lists_long_lem : 6 * count_in t ≤ length a.lists
  unfolding board_of places_of
  lists_long_lem =
      let z = length_stack (board_in t) true s.lists on in
      let w : length s.lists * count_in t ≤ 6 * count_in t = mul-le-mul_right (count_in t) h.good.formed.deep in
      omega (arith, ap (λ (q : List ℕ). length q) part.lists_are, length_laid (6 * count_in t) (stack_of (count_in t) s.lists) a₀.lists (omega arith))

  pub deep : r.lists ≤ 6
  deep = omega (arith, sums.lists_are, h.good.formed.deep)

  pub enter_room : (r.evaluations < 100000) × (r.evaluations * 7 + 7 ≤ length a.visited)
  enter_room =
      by_ripe (plan_in t) (λ s. Holds t a₀ s r a → (r.evaluations < 100000) × (r.evaluations * 7 + 7 ≤ length a.visited))
      (λ ls v ys fresh h. visited_room t given a₀ ls v ys r a h fresh) s ripe h

  -- ---- after the evaluation
  module _ (x : answer.Explored) (at k : ℕ) (list route route' : List ℕ)
      (ev : Evaluated (explore (board_in t) (set_on s.lists)) x (take k (drop at a.lists)) list route route') where
    abbrev o : Outcome ℕ
    o = explore (board_in t) (set_on s.lists)

    module _ (m : ℕ) (e : x ≡ answer.TheVariants.Extend m) where
      extends : o ≡ Extend (take m list)
      unfolding outcome_of
      extends = ev.is ∙ ap (λ (x : answer.Explored). outcome_of x list route') e

      pub extend_number : m ≡ length (take m list)
      unfolding outcome_number size_of
      extend_number = sym (ap outcome_number e) ∙ ev.number ∙ ap size_of extends

      extend_listed : list ≡ take m list ++ drop (length (take m list)) (take k (drop at a.lists))
      unfolding list_after
      extend_listed = ev.listed ∙ ap (λ (o : Outcome ℕ). list_after o (take k (drop at a.lists))) extends

      pub extend_route : route' ≡ route
      unfolding route_after
      extend_route = ev.laid ∙ ap (λ (o : Outcome ℕ). route_after o route) extends

      some_room : (length (take m list) ≡ 0 → ⊥) → (length s.lists < 6) × (length (take m list) ≤ count_in t)
      some_room n =
          by_ripe (plan_in t) (λ s. Holds t a₀ s r a → explore (board_in t) (set_on s.lists) ≡ Extend (take m list) → (length s.lists < 6) × (length (take m list) ≤ count_in t))
          (λ ls v ys fresh h oe. extend_room t given a₀ ls v ys r a h fresh (take m list) oe n) s ripe h extends

      pub push_room : (more : Record) → more ≡ entered_rec r → ((m ≡ 0 → ⊥) → more.lists < 6) × (m ≤ 6144)
      unfolding board_of places_of
      push_room more me =
          let q = extend_number in
          let z : more.lists ≡ r.lists = ap (λ (q : Record). q.lists) me in
          let y = sums.lists_are in (
            (λ n. omega (arith, (some_room (λ z. n (q ∙ z))).0)),
            either (eqb m 0) (λ t. omega (arith, eqb-true m 0 t))
                (λ f. omega (arith, (some_room (λ z. eqb-false m 0 f (q ∙ z))).1, given.sound.few)),
          )

    module _ (m : ℕ) (e : x ≡ answer.TheVariants.Wall m) where
      walls : o ≡ Wall (take m route')
      unfolding outcome_of
      walls = ev.is ∙ ap (λ (x : answer.Explored). outcome_of x list route') e

      pub wall_number : m ≡ length (take m route')
      unfolding outcome_number size_of
      wall_number = sym (ap outcome_number e) ∙ ev.number ∙ ap size_of walls

      wall_list : list ≡ take k (drop at a.lists)
      unfolding list_after
      wall_list = ev.listed ∙ ap (λ (o : Outcome ℕ). list_after o (take k (drop at a.lists))) walls

      pub wall_route : route' ≡ take m route' ++ drop (length (take m route')) route
      unfolding route_after
      wall_route = ev.laid ∙ ap (λ (o : Outcome ℕ). route_after o route) walls

    module _ (e : x ≡ answer.TheVariants.Nothing) where
      nothings : o ≡ Nothing
      unfolding outcome_of
      nothings = ev.is ∙ ap (λ (x : answer.Explored). outcome_of x list route') e

      nothing_list : list ≡ take k (drop at a.lists)
      unfolding list_after
      nothing_list = ev.listed ∙ ap (λ (o : Outcome ℕ). list_after o (take k (drop at a.lists))) nothings

      pub nothing_route : route' ≡ route
      unfolding route_after
      nothing_route = ev.laid ∙ ap (λ (o : Outcome ℕ). route_after o route) nothings

    -- ---- what is left
    abbrev lists' : List ℕ
    lists' = take at a.lists ++ (list ++ drop k (drop at a.lists))

    module _ (set : List ℕ) (se : set ≡ row (set_on s.lists)) (more : Record) (me : more ≡ entered_rec r) (va : List ℕ) (ve : va ≡ over a.visited (r.evaluations * 7) set) where
      pub arm_nothing : x ≡ answer.TheVariants.Nothing → (q : Record) → LookedAt t.limits more q → Holds t a₀ (advance (plan_in t) s) q (store_in lists' va a.layouts a.points)
      arm_nothing e q look =
          by_ripe (plan_in t)
          (λ s. Holds t a₀ s r a → explore (board_in t) (set_on s.lists) ≡ Nothing → set ≡ row (set_on s.lists)
          → Holds t a₀ (advance (plan_in t) s) q (store_in lists' va a.layouts a.points))
          (λ ls v ys fresh h oe se.
          v_nothing t given a₀ ls v ys r a h fresh q lists' va oe (subst (λ (m : Record). LookedAt t.limits m q) me look)
          (part_same a.lists at k list (nothing_list e) ∙ lists_are_lem t given a₀ ls v ys r a h fresh) (visited_put t given a₀ ls v ys r a h fresh va set ve se))
          s ripe h (nothings e) se

      pub arm_extend : (m : ℕ) → x ≡ answer.TheVariants.Extend m → k ≡ count_in t → (r.lists < 6 → at ≡ r.lists * count_in t) → (u q : Record)
          → (m ≡ 0 → u ≡ more) × ((m ≡ 0 → ⊥) → u ≡ pushed_rec more m) → LookedAt t.limits u q → Holds t a₀ (advance (plan_in t) s) q (store_in lists' va a.layouts a.points)
      arm_extend m e ek ea u q ue look =
          let num = extend_number m e in
          by_ripe (plan_in t)
          (λ s. Holds t a₀ s r a → explore (board_in t) (set_on s.lists) ≡ Extend (take m list) → set ≡ row (set_on s.lists) → r.lists ≡ length s.lists
          → Holds t a₀ (advance (plan_in t) s) q (store_in lists' va a.layouts a.points))
          (λ ls v ys fresh h oe se le.
          v_extend t given a₀ ls v ys r a h fresh (take m list) oe u q lists' va
          (extend_record t given a₀ ls v ys r a h fresh (take m list) oe u
          (λ z. ue.0 (num ∙ z) ∙ me) (λ n. ue.1 (λ z. n (sym num ∙ z)) ∙ ap (λ (u : Record). pushed_rec u m) me ∙ ap (λ (j : ℕ). pushed_rec (entered_rec r) j) num))
          look
          (extend_lists t given a₀ ls v ys r a h fresh (take m list) oe at k list ek (λ d. ea (omega arith) ∙ ap (λ (j : ℕ). j * count_in t) le) (extend_listed m e))
          (visited_put t given a₀ ls v ys r a h fresh va set ve se))
          s ripe h (extends m e) se sums.lists_are

      module _ (m : ℕ) (e : x ≡ answer.TheVariants.Wall m) where
        kept : kept_in more ≡ points_kept s.layouts
        kept =
            by_ripe (plan_in t) (λ s. Holds t a₀ s r a → kept_in more ≡ points_kept s.layouts)
            (λ ls v ys fresh h. kept_is (count_in t) ls (v ++ set_on ls ∷ []) ys more (me ∙ entered t given a₀ ls v ys r a h fresh)) s ripe h

        space : points_kept s.layouts + m ≤ 1000000 → 2 * points_kept s.layouts + 2 * m ≤ points_length (inputs_under t) t.limits
        space k =
            let num = wall_number m e in
            by_ripe (plan_in t)
            (λ s. Holds t a₀ s r a → explore (board_in t) (set_on s.lists) ≡ Wall (take m route') → points_kept s.layouts + m ≤ 1000000
            → 2 * points_kept s.layouts + 2 * m ≤ points_length (inputs_under t) t.limits)
            (λ ls v ys fresh h oe k. omega (arith, wall_room t given a₀ ls v ys r a h fresh (take m route') oe (omega arith))) s ripe h (walls m e) k

        named : (i : ℕ) → i < length (take m route') → get_or (take m route') i 0 < centres t.query.window
        unfolding board_of inputs_of
        named i k =
            wall_inside (board_in t) given.sound.laid_out (set_on s.lists) (take m route') (walls m e) (get_or (take m route') i 0) (get_d_member (take m route') i 0 k)

        pub listable : length route' ≡ centres t.query.window → Listable more t.query.window a.layouts a.points (take m route')
        unfolding plan_of
        listable lp =
            let z : more.layouts ≡ length s.layouts = ap (λ (q : Record). q.layouts) me ∙ sums.layouts_are in
            let low : length s.layouts < t.limits.results = h.good.limits.running ripe.running in
            let ke = kept in
            let f = length_flat (λ (y : Layout). row y.members) 7 s.layouts (λ y m. length_row y.members (h.good.formed.listed y m).row.six) in
            record {
              few = omega (arith, given.sound.results);
              room = omega (
                arith,
                ap (λ (q : List ℕ). length q) (layouts_are_lem t a₀ s r a h),
                length_laid (7 * t.limits.results) (flat (map (λ (y : Layout). row y.members) s.layouts)) a₀.layouts
                    (omega arith),
              );
              fits = given.fits;
              kept = omega (arith, h.good.limits.points);
              short = omega (arith, length-take m route', (framed 8192 8192 t.query.window given.fits).few);
              named = named;
              space = λ k.
                  omega (
                    arith,
                    ap (λ (q : List ℕ). length q) (points_are_lem t a₀ s r a h),
                    length_laid (points_length (inputs_under t) t.limits) (flat (map (λ (y : Layout). numbers y.route) s.layouts))
                        a₀.points (omega (arith, length_kept s.layouts, points_fit t s h.good)),
                    space (omega (arith, wall_number m e)),
                    wall_number m e,
                  );
            }

        pub arm_wall : (q : Record) (ya pa route'' : List ℕ) → Listing t.limits more t.query.window set (take m route') q a.layouts a.points ya pa route''
            → Holds t a₀ (advance (plan_in t) s) q (store_in lists' va ya pa)
        arm_wall q ya pa route'' l =
            let w : List ℕ = take m route' in
            let k' = length w in
            by_ripe (plan_in t)
            (λ s. Holds t a₀ s r a → explore (board_in t) (set_on s.lists) ≡ Wall (take m route') → set ≡ row (set_on s.lists) → kept_in more ≡ points_kept s.layouts
            → Holds t a₀ (advance (plan_in t) s) q (store_in lists' va ya pa))
            (λ ls v ys fresh h oe se ke.
            let le = part_same a.lists at k list (wall_list m e) ∙ lists_are_lem t given a₀ ls v ys r a h fresh in
            let we = visited_put t given a₀ ls v ys r a h fresh va set ve se in
            either (leb (kept_in more + k') 1000000)
            (λ i.
            let d = l.listed (leb-true (kept_in more + k') 1000000 i) in
            let z : more.layouts ≡ r.layouts = ap (λ (q : Record). q.layouts) me in
            v_wall t given a₀ ls v ys r a h fresh (take m route') oe (let b = leb-true (kept_in more + k') 1000000 i in omega arith) q lists' va ya pa set k' refl
            (subst (λ (u : Record). LookedAt t.limits (listed_rec u k') q) me d.0) le we se
            (d.1 ∙ ap (λ (j : ℕ). over a.layouts (j * 7) set) z) (kept_in more) ke d.2)
            (λ f.
            let d = l.full (leb-false (kept_in more + k') 1000000 f) in
            let full = v_full t given a₀ ls v ys r a h fresh (take m route') oe lists' va (let b = leb-false (kept_in more + k') 1000000 f in omega arith) le we in
            subst (λ (u : Record). Holds t a₀ (advance (plan_in t) (held Running true ls v ys)) u (store_in lists' va ya pa)) (sym (d.0 ∙ ap (λ (u : Record). stop_rec u 4) me))
            (subst (λ (u : List ℕ). Holds t a₀ (advance (plan_in t) (held Running true ls v ys)) (stop_rec (entered_rec r) 4) (store_in lists' va u pa)) (sym d.1)
            (subst (λ (u : List ℕ). Holds t a₀ (advance (plan_in t) (held Running true ls v ys)) (stop_rec (entered_rec r) 4) (store_in lists' va a.layouts u)) (sym d.2) full))))
            s ripe h (walls m e) se kept

pub stood_some : (t : Terms) (given : Given t) (a₀ : Store) (s : State) (r : Record) (a : Store) (h : Holds t a₀ s r a) (ripe : Ripe (plan_in t) s)
    → SomeStood a.lists r.placements (take r.lists r.nexts)
unfolding board_of places_of
stood_some t given a₀ s r a h ripe = record {
  small = omega (arith, given.sound.few, (sums t given a₀ s r a h ripe).placements_are);
  ms = reverse s.lists;
  rest = rest t given a₀ s r a h ripe;
  stood = stood t given a₀ s r a h ripe;
}

module _ (t : Terms) (given : Given t) (a₀ : Store) (s : State) (r : Record) (a : Store) (h : Holds t a₀ s r a) (ripe : Ripe (plan_in t) s) (set : List ℕ) (se : set ≡ row (set_on s.lists)) where
  pub small_set : length (set_on s.lists) ≤ 6
  small_set = omega (arith, length_set_on s.lists, h.good.formed.deep)

  pub set_size : (get_or set 0 0 ≤ 6) × (length set ≡ 7)
  set_size = (
    omega (arith, ap (λ (l : List ℕ). get_or l 0 0) se, row_head (set_on s.lists), small_set),
    ap (λ (l : List ℕ). length l) se ∙ length_row (set_on s.lists) small_set,
  )

  pub members_are : (j : ℕ) → j ≡ get_or set 0 0 → take (j + 1 - 1) (drop 1 set) ≡ set_on s.lists
  members_are j e = members_of (set_on s.lists) set (j + 1) se small_set (omega arith)

  pub evaluated_as : (j : ℕ) → j ≡ get_or set 0 0 → (x : answer.Explored) (p p' q q' : List ℕ)
      → Evaluated (explore (board_in t) (take (j + 1 - 1) (drop 1 set))) x p p' q q' → Evaluated (explore (board_in t) (set_on s.lists)) x p p' q q'
  evaluated_as j e x p p' q q' v = subst (λ (m : List ℕ). Evaluated (explore (board_in t) m) x p p' q q') (members_are j e) v

-- the place of the list to be made
pub place_long : (l : List ℕ) (at n c : ℕ) → n ≡ c → at + n ≤ 6 * n → 6 * c ≤ length l → length (take (at + n - at) (drop at l)) ≡ c
place_long l at n c e h k = omega (arith, length-take (at + n - at) (drop at l), length-drop at l)

pub place_at : (at n c : ℕ) → n ≡ c → at + n - at ≡ c
place_at at n c e = omega arith

pub place_is : (t : Terms) (given : Given t) (a₀ : Store) (s : State) (r : Record) (a : Store) (h : Holds t a₀ s r a) (ripe : Ripe (plan_in t) s) (at n count : ℕ) → count ≡ r.lists → n ≡ count_in t
    → (count < 6 → at ≡ count * n) → r.lists < 6 → at ≡ r.lists * count_in t
place_is t given a₀ s r a h ripe at n count ec en f k = f (omega arith) ∙ ap₂ ◌*◌ ec en

pub route_inside : (c m : ℕ) (route : List ℕ) → m ≡ length (take m route) → length route ≡ c → m ≤ c
route_inside c m route e l = omega (arith, length-take m route)

-- ---- a visit: the row of the pending set, and what the evaluation of its members gives
module _ (t : Terms) (given : Given t) (a₀ : Store) (s : State) (r : Record) (a : Store) (h : Holds t a₀ s r a) (ripe : Ripe (plan_in t) s) (set : List ℕ)
    (f : (ms : List Extensions) (rest : List ℕ) → Stood a.lists r.placements (take r.lists r.nexts) ms rest → set ≡ row (set_on (reverse ms)))
  where
    pub visit_row : set ≡ row (set_on s.lists)
    visit_row = row_is t given a₀ s r a h ripe set f

    pub visit_size : (get_or set 0 0 ≤ 6) × (length set ≡ 7)
    visit_size = set_size t given a₀ s r a h ripe set visit_row

    pub visit_ready : (at : ℕ) → at + r.placements ≤ 6 * r.placements
        → Ready t.query t.groups t.numbers t.edges t.block_base t.allow_base t.steps (take (get_or set 0 0 + 1 - 1) (drop 1 set)) (length (take (at + r.placements - at) (drop at a.lists)))
    visit_ready at room =
        ready t given a₀ s r a h ripe _ _ (members_are t given a₀ s r a h ripe set visit_row (get_or set 0 0) refl)
        (place_long a.lists at r.placements _ (sums t given a₀ s r a h ripe).placements_are room (lists_long_lem t given a₀ s r a h ripe))

    module _ (x : answer.Explored) (at : ℕ) (list route route' : List ℕ)
        (v : Evaluated (explore (board_in t) (take (get_or set 0 0 + 1 - 1) (drop 1 set))) x (take (at + r.placements - at) (drop at a.lists)) list route route')
      where
        abbrev k : ℕ
        k = at + r.placements - at

        ev : Evaluated (explore (board_in t) (set_on s.lists)) x (take k (drop at a.lists)) list route route'
        ev = evaluated_as t given a₀ s r a h ripe set visit_row (get_or set 0 0) refl x (take k (drop at a.lists)) list route route' v

        module _ (m : ℕ) (e : x ≡ answer.TheVariants.Extend m) where
          pub visit_pushes : (more : Record) → more ≡ entered_rec r → ((m ≡ 0 → ⊥) → more.lists < 6) × (m ≤ 6144)
          visit_pushes more me = push_room t given a₀ s r a h ripe x at k list route route' ev m e more me

          pub visit_extend_route : route' ≡ route
          visit_extend_route = extend_route t given a₀ s r a h ripe x at k list route route' ev m e

        module _ (m : ℕ) (e : x ≡ answer.TheVariants.Wall m) where
          pub visit_wall_number : m ≡ length (take m route')
          visit_wall_number = wall_number t given a₀ s r a h ripe x at k list route route' ev m e

          pub visit_wall_long : m ≤ length route'
          visit_wall_long = omega (arith, visit_wall_number, length-take m route')

          pub visit_lists : (more : Record) → more ≡ entered_rec r → length route' ≡ centres t.query.window
              → Listable more t.query.window a.layouts a.points (take m route')
          visit_lists more me lp = listable t given a₀ s r a h ripe x at k list route route' ev set visit_row more me (over a.visited (r.evaluations * 7) set) refl m e lp

          pub visit_wiped : (c : ℕ) (wiped : List ℕ) → route ≡ replicate c 0 → length route' ≡ c → wiped ≡ zeros (length (take m route')) → wiped ++ drop m route' ≡ replicate c 0
          visit_wiped c wiped clear long w =
              route_wiped c m (take m route') route route' (wiped ++ drop m route') clear
              (wall_route t given a₀ s r a h ripe x at k list route route' ev m e) visit_wall_number
              (route_inside c m route' visit_wall_number long)
              (ap (λ (q : List ℕ). q ++ drop m route') (w ∙ ap zeros (sym visit_wall_number)))

        pub visit_nothing_route : x ≡ answer.TheVariants.Nothing → route' ≡ route
        visit_nothing_route e = nothing_route t given a₀ s r a h ripe x at k list route route' ev e

        -- ---- the arms
        module _ (more : Record) (me : more ≡ entered_rec r) (va : List ℕ) (ve : va ≡ over a.visited (r.evaluations * 7) set) where
          pub visit_nothing : x ≡ answer.TheVariants.Nothing → (q : Record) → LookedAt t.limits more q
              → Holds t a₀ (advance (plan_in t) s) q (store_in (take at a.lists ++ (list ++ drop k (drop at a.lists))) va a.layouts a.points)
          visit_nothing = arm_nothing t given a₀ s r a h ripe x at k list route route' ev set visit_row more me va ve

          pub visit_extend : (m : ℕ) → x ≡ answer.TheVariants.Extend m → (r.lists < 6 → at ≡ r.lists * r.placements) → (u q : Record)
              → (m ≡ 0 → u ≡ more) × ((m ≡ 0 → ⊥) → u ≡ pushed_rec more m) → LookedAt t.limits u q
              → Holds t a₀ (advance (plan_in t) s) q (store_in (take at a.lists ++ (list ++ drop k (drop at a.lists))) va a.layouts a.points)
          visit_extend m e ea =
              let n = (sums t given a₀ s r a h ripe).placements_are in
              arm_extend t given a₀ s r a h ripe x at k list route route' ev set visit_row more me va ve m e
              (place_at at r.placements _ n) (λ d. ea d ∙ ap (λ (j : ℕ). r.lists * j) n)

          pub visit_wall : (m : ℕ) → x ≡ answer.TheVariants.Wall m → (q : Record) (ya pa route'' : List ℕ)
              → Listing t.limits more t.query.window set (take m route') q a.layouts a.points ya pa route''
              → Holds t a₀ (advance (plan_in t) s) q (store_in (take at a.lists ++ (list ++ drop k (drop at a.lists))) va ya pa)
          visit_wall = arm_wall t given a₀ s r a h ripe x at k list route route' ev set visit_row more me va ve
