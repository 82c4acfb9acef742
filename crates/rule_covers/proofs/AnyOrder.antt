-- Several covers, lifted in any order: each lift is accepted and every count is restored. After the covers the buildings stand in the order of the lifts, and each
-- lift takes the first of them.
use mathlib.Core.Path.{◌≡◌, refl}
use mathlib.Core.List.{List, [], ◌∷◌, ◌++◌, append_assoc, append-nil}
use Prim.Native.Nat.{ℕ}
use Rattle.base_model.specs.declared.Rect.{Rect}
use Rattle.rule_covers.specs.Covers.{one_more, may_rise, cover_call}
use Rattle.rule_covers.specs.Sessions.{Building, Reordered, none_left, found, after, Accepted, cover_one, lift_one, AnyOrder}
use Rattle.rule_covers.specs.Standing.{Standing}
use Rattle.rule_covers.proofs.Changes.{accepted_found}
use Rattle.rule_covers.proofs.Standing.{brought_forward, put_among, nothing_stands, nothing_left, cover_stands, lift_first}

module _ (w : Rect) (counts : List ℕ) where
  -- a building that was covered first stands among those that were covered later
  in_place : (before behind bs : List Building) (b : Building) (now : List ℕ) → Standing w counts ((before ++ behind) ++ b ∷ bs) now
      → Standing w counts ((before ++ b ∷ behind) ++ bs) now
  in_place before behind bs b now s =
      let front = brought_forward w counts (before ++ behind) bs b now s in
      let among : Standing w counts (before ++ b ∷ (behind ++ bs)) now =
      put_among w counts before (behind ++ bs) b now (rw append_assoc at front)
      in
      rw append_assoc among

  covers_stand : {covers lifts : List Building} → Reordered covers lifts → (bs : List Building) (now : List ℕ) → Standing w counts bs now → Accepted (cover_one w) covers now
      → Standing w counts (lifts ++ bs) (after (cover_one w) covers now)
  unfolding Accepted after
  covers_stand none_left bs now s e = s
  covers_stand (found {x = b} {xs = covers} before behind p) bs now s e =
      in_place before behind bs b (after (cover_one w) covers (cover_one w b now).baseline)
      (covers_stand p (b ∷ bs) (cover_one w b now).baseline (cover_stands w counts b bs now s e.0) e.1)

  lifts_restore : (lifts : List Building) (now : List ℕ) → Standing w counts lifts now → Accepted (lift_one w) lifts now × (after (lift_one w) lifts now ≡ counts)
  unfolding Accepted after
  lifts_restore [] now s = (tt, nothing_left w counts now s)
  lifts_restore (b ∷ lifts) now s =
      let l = lift_first w counts b lifts now s in
      let k = lifts_restore lifts (lift_one w b now).baseline l.1 in
      ((l.0, k.0), k.1)

  -- the first cover tells that the window fits and that there is room
  any_by : {covers lifts : List Building} → Reordered covers lifts → Accepted (cover_one w) covers counts
      → Accepted (lift_one w) lifts (after (cover_one w) covers counts) × (after (lift_one w) lifts (after (cover_one w) covers counts) ≡ counts)
  unfolding Accepted after cover_one cover_call
  any_by none_left e = (tt, refl)
  any_by (found {x = b} {xs = covers} before behind p) e =
      let k = accepted_found w b.mover b.rectangle may_rise counts one_more e.0 in
      let lifts : List Building = before ++ b ∷ behind in
      let s = covers_stand (found before behind p) [] counts (nothing_stands w counts k.window k.room) e in
      lifts_restore lifts (after (cover_one w) (b ∷ covers) counts) (rw append-nil at s)

pub any_order : (w : Rect) → AnyOrder w
unfolding AnyOrder
any_order w covers lifts counts p e = any_by w counts p e
