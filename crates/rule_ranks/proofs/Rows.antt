-- Ranks that the checker computes, row by row: beside the ends and between them, both sides of every border, the refusals in their order, and which of two is closer.
use Prim.Native.Nat.{ℕ}
use mathlib.Core.Path.{◌≡◌, refl}
use mathlib.Core.Bool.{Bool, true, false}
use mathlib.Core.Option.{Option}
use mathlib.Core.List.{List, [], ◌∷◌, map}
use lib.IntN.{pos, negsuc}
use Rattle.base_model.specs.Answers.{refusal, ask, first}
use Rattle.base_model.specs.declared.Rect.{Rect}
use Rattle.base_model.specs.declared.Site.{Site}
use Rattle.base_model.specs.declared.Rank.{Rank}
use Rattle.ground_rects.specs.Rects.{rect, nonempty, holds}
use Rattle.ground_rects.specs.Windows.{size_fits}
use Rattle.rule_ranks.specs.Measures.{
  square,
  squared_length,
  dot,
  cross,
  segment,
  from_first,
  from_second,
  projection_twice,
  beside_end,
  between_ends,
  measure_of,
}
use Rattle.rule_ranks.specs.Ranks.{
  on_map,
  same_point,
  site_fits,
  footprint_fits,
  rank_checks,
  Ranking,
  refuses,
  beyond,
  ranks,
  rank_of,
  ranking,
  rank_call,
}
use Rattle.rule_ranks.specs.Original.{endpoint_rank, early_rank, original_rank, quotient_in}
use Rattle.rule_ranks.specs.Orders.{is_rank, lower, closer_rank}

-- a call and what it must answer
pub record Row : Type 0 where
  pub across : ℕ
  pub down : ℕ
  pub entrance : Site
  pub footprint : Rect
  pub want : Ranking

unfoldable pub row : (across down : ℕ) → Site → Rect → Ranking → Row
row a d s r k = record { across = a; down = d; entrance = s; footprint = r; want = k }

unfoldable pub got : Row → Ranking
got r = rank_call r.across r.down r.entrance r.footprint

unfoldable pub wanted : Row → Ranking
wanted r = r.want

-- the Rust's function on the same values
unfoldable pub original : Row → Option ℕ
original r = original_rank r.entrance r.footprint

unfoldable pub wanted_quotient : Row → Option ℕ
wanted_quotient r = quotient_in r.want

-- ---- values
unfoldable pub site : (first_x first_y second_x second_y radius : ℕ) → Site
site a b c d n = record { first = record { x = a; y = b }; second = record { x = c; y = d }; radius = n }

unfoldable pub box : ℕ → ℕ → ℕ → ℕ → Rect
box l t r b = rect (pos l) (pos t) (pos r) (pos b)

unfoldable pub three : ℕ → ℕ → ℕ → Rank
three q r d = record { quotient = q; remainder = r; divisor = d }

unfoldable pub rank : ℕ → ℕ → ℕ → Ranking
rank q r d = ranks (three q r d)

unfoldable pub refused : ℕ → Ranking
refused n = refuses (refusal n)

-- a map of 320 × 272 pixels. The entrance goes 119 pixels across and 120 down: its length is 169, its squared length 28,561. The two numbers have no common divisor,
-- so that any whole number may be the projection, or the cross product
unfoldable pub near : (radius : ℕ) → Rect → Ranking → Row
near n r k = row 40 34 (site 70 70 189 190 n) r k

-- its centre is the first end of that entrance
unfoldable pub home : Rect
home = box 62 58 78 82

-- ---- a name under which all of this unfolds
unfoldable pub computing : ℕ
unfolding refusal ask first rect nonempty holds size_fits square squared_length dot cross segment from_first from_second projection_twice beside_end between_ends measure_of
    on_map same_point site_fits footprint_fits rank_checks rank_of ranking rank_call endpoint_rank early_rank original_rank quotient_in is_rank lower closer_rank
    row got wanted original wanted_quotient site box three rank refused near home
computing = 0

-- ---- the first end, the second, and between them
pub ending : List Row
ending =
    -- the centre at the first end; the projection zero on both sides of the entrance, where the line between the ends would give the same quotient; one below; one above
    near 90 home (rank 0 0 4)
    ∷ near 90 (box 118 10 142 11) (rank 7140 1 4)
    ∷ near 90 (box 2 118 18 141) (rank 7140 1 4)
    ∷ near 90 (box 62 65 79 74) (rank 0 2 4)
    ∷ near 90 (box 61 66 78 75) (rank 0 57121 114244)
    -- beside the first end
    ∷ near 90 (box 38 54 71 69) (rank 312 2 4)
    -- the centre at the second end; the projection twice the squared length, on both sides; one above; one below
    ∷ near 90 (box 173 178 205 202) (rank 0 0 4)
    ∷ near 90 (box 237 127 261 134) (rank 7140 1 4)
    ∷ near 90 (box 125 247 133 252) (rank 7140 1 4)
    ∷ near 90 (box 184 190 193 191) (rank 0 2 4)
    ∷ near 90 (box 185 189 194 190) (rank 0 57121 114244)
    -- beside the second end
    ∷ near 90 (box 203 193 227 209) (rank 797 0 4)
    -- between them: in the middle, and on both sides of the entrance
    ∷ near 90 (box 128 128 131 132) (rank 0 0 114244)
    ∷ near 90 (box 129 96 161 104) (rank 1032 39792 114244)
    ∷ near 90 (box 92 133 108 157) (rank 992 92452 114244)
    -- one pixel wider, one higher, and both: the centre moves by half a pixel
    ∷ near 90 (box 129 96 162 104) (rank 1055 32980 114244)
    ∷ near 90 (box 129 96 161 105) (rank 1009 96885 114244)
    ∷ near 90 (box 129 96 162 105) (rank 1032 61513 114244)
    ∷ []

pub ends_tell : map got ending ≡ map wanted ending
unfolding computing ending
ends_tell = refl

pub ends_tell_original : map original ending ≡ map wanted_quotient ending
unfolding computing ending
ends_tell_original = refl

-- ---- the radius
pub limited : List Row
limited =
    -- at the first end: at the radius; the least above, where the quotient is still the radius squared; farther
    near 50 (box 88 22 112 38) (rank 2500 0 4)
    ∷ near 50 (box 19 69 21 71) (rank 2500 0 4)
    ∷ near 50 (box 102 24 103 40) beyond
    ∷ near 50 (box 18 69 21 71) beyond
    -- at the second
    ∷ near 50 (box 177 232 201 248) (rank 2500 0 4)
    ∷ near 50 (box 189 228 190 252) beyond
    ∷ near 50 (box 188 240 190 241) beyond
    -- between them, on both sides: just inside; at the radius; the next above, where the quotient is still the radius squared
    ∷ near 50 (box 189 119 190 120) (rank 2499 80445 114244)
    ∷ near 50 (box 178 112 202 128) (rank 2500 0 114244)
    ∷ near 50 (box 190 120 191 121) beyond
    ∷ near 50 (box 68 138 70 142) (rank 2500 0 114244)
    ∷ near 50 (box 68 138 69 141) beyond
    -- at the bound of the early test, and one above
    ∷ near 50 (box 179 79 180 81) beyond
    ∷ near 50 (box 179 80 181 81) beyond
    -- the radius zero
    ∷ near 0 home (rank 0 0 4)
    ∷ near 0 (box 70 69 71 70) beyond
    ∷ near 0 (box 69 70 70 71) beyond
    ∷ near 0 (box 128 128 131 132) (rank 0 0 114244)
    ∷ near 0 (box 173 178 205 202) (rank 0 0 4)
    ∷ near 0 (box 188 190 189 191) beyond
    -- the largest radius: at it, and the least above
    ∷ row 1024 1 (site 0 1 100 1 1024) (box 1120 0 1128 2) (rank 1048576 0 4)
    ∷ row 1024 1 (site 0 1 100 1 1024) (box 1120 0 1128 1) beyond
    ∷ row 1024 1 (site 0 1 100 1 1024) (box 1120 0 1128 3) beyond
    ∷ []

pub radius_limits : map got limited ≡ map wanted limited
unfolding computing limited
radius_limits = refl

pub radius_limits_original : map original limited ≡ map wanted_quotient limited
unfolding computing limited
radius_limits_original = refl

-- ---- other entrances
pub turned : List Row
turned =
    -- the other way along the same entrance
    row 40 34 (site 189 190 70 70 90) home (rank 0 0 4)
    ∷ row 40 34 (site 189 190 70 70 90) (box 118 10 142 11) (rank 7140 1 4)
    ∷ row 40 34 (site 189 190 70 70 90) (box 62 65 79 74) (rank 0 2 4)
    ∷ row 40 34 (site 189 190 70 70 90) (box 61 66 78 75) (rank 0 57121 114244)
    ∷ row 40 34 (site 189 190 70 70 90) (box 185 189 194 190) (rank 0 57121 114244)
    ∷ row 40 34 (site 189 190 70 70 90) (box 184 190 193 191) (rank 0 2 4)
    ∷ row 40 34 (site 189 190 70 70 90) (box 173 178 205 202) (rank 0 0 4)
    -- along a row, along a column, and towards the upper right, each both ways
    ∷ row 40 34 (site 40 40 200 40 64) (box 96 56 104 72) (rank 576 0 102400)
    ∷ row 40 34 (site 40 40 200 40 64) (box 16 24 24 32) (rank 544 0 4)
    ∷ row 40 34 (site 40 40 200 40 64) (box 208 16 232 31) (rank 672 1 4)
    ∷ row 40 34 (site 200 40 40 40 64) (box 96 56 104 72) (rank 576 0 102400)
    ∷ row 40 34 (site 200 40 40 40 64) (box 16 24 24 32) (rank 544 0 4)
    ∷ row 40 34 (site 200 40 40 40 64) (box 208 16 232 31) (rank 672 1 4)
    ∷ row 40 34 (site 40 40 40 200 64) (box 96 56 104 72) (rank 3600 0 102400)
    ∷ row 40 34 (site 40 40 40 200 64) (box 16 24 24 32) (rank 544 0 4)
    ∷ row 40 34 (site 40 40 40 200 64) (box 208 16 232 31) beyond
    ∷ row 40 34 (site 40 200 40 40 64) (box 96 56 104 72) (rank 3600 0 102400)
    ∷ row 40 34 (site 40 200 40 40 64) (box 16 24 24 32) (rank 544 0 4)
    ∷ row 40 34 (site 40 200 40 40 64) (box 208 16 232 31) beyond
    ∷ row 40 34 (site 40 200 200 40 64) (box 96 56 104 72) (rank 2888 0 204800)
    ∷ row 40 34 (site 40 200 200 40 64) (box 16 24 24 32) beyond
    ∷ row 40 34 (site 40 200 200 40 64) (box 208 16 232 31) (rank 672 1 4)
    ∷ row 40 34 (site 200 40 40 200 64) (box 96 56 104 72) (rank 2888 0 204800)
    ∷ row 40 34 (site 200 40 40 200 64) (box 16 24 24 32) beyond
    ∷ row 40 34 (site 200 40 40 200 64) (box 208 16 232 31) (rank 672 1 4)
    ∷ []

pub all_directions : map got turned ≡ map wanted turned
unfolding computing turned
all_directions = refl

pub all_directions_original : map original turned ≡ map wanted_quotient turned
unfolding computing turned
all_directions_original = refl

-- ---- the largest map and the least
pub extreme : List Row
extreme =
    -- the entrance is the diagonal: on it; just within the radius, on both sides; half a pixel nearer and farther
    row 1024 1024 (site 0 0 8192 8192 1024) (box 0 0 8192 8192) (rank 0 0 536870912)
    ∷ row 1024 1024 (site 0 0 8192 8192 1024) (box 8191 8191 8192 8192) (rank 0 0 536870912)
    ∷ row 1024 1024 (site 0 0 8192 8192 1024) (box 3944 2496 3952 2504) (rank 1048352 0 536870912)
    ∷ row 1024 1024 (site 0 0 8192 8192 1024) (box 2496 3944 2504 3952) (rank 1048352 0 536870912)
    ∷ row 1024 1024 (site 0 0 8192 8192 1024) (box 3944 2496 3951 2504) (rank 1047628 67108864 536870912)
    ∷ row 1024 1024 (site 0 0 8192 8192 1024) (box 3944 2496 3953 2504) beyond
    -- the other diagonal: the corners beside it, and near its ends and its middle
    ∷ row 1024 1024 (site 8192 0 0 8192 1024) (box 0 0 1 1) beyond
    ∷ row 1024 1024 (site 8192 0 0 8192 1024) (box 8191 8191 8192 8192) beyond
    ∷ row 1024 1024 (site 8192 0 0 8192 1024) (box 8184 0 8192 1) (rank 6 67108864 536870912)
    ∷ row 1024 1024 (site 8192 0 0 8192 1024) (box 0 8184 1 8192) (rank 6 67108864 536870912)
    ∷ row 1024 1024 (site 8192 0 0 8192 1024) (box 4000 4000 4001 4001) (rank 18240 268435456 536870912)
    -- the least map
    ∷ row 1 1 (site 0 0 8 8 8) (box 0 0 8 8) (rank 0 0 512)
    ∷ row 1 1 (site 0 0 8 8 8) (box 0 0 2 1) (rank 0 64 512)
    ∷ row 1 1 (site 0 0 8 8 8) (box 7 0 8 1) (rank 24 256 512)
    ∷ row 1 1 (site 0 0 8 8 8) (box 0 7 1 8) (rank 24 256 512)
    -- one pixel of entrance
    ∷ row 1 1 (site 4 4 4 5 8) (box 4 4 5 5) (rank 0 1 4)
    ∷ row 1 1 (site 4 4 4 5 8) (box 0 0 8 8) (rank 0 0 4)
    ∷ row 1 1 (site 4 4 4 5 8) (box 0 0 8 1) (rank 12 1 4)
    ∷ row 1 1 (site 4 4 4 5 8) (box 0 7 8 8) (rank 6 1 4)
    ∷ []

pub extreme_maps : map got extreme ≡ map wanted extreme
unfolding computing extreme
extreme_maps = refl

pub extreme_maps_original : map original extreme ≡ map wanted_quotient extreme
unfolding computing extreme
extreme_maps_original = refl

-- ---- refusals
pub sized : List Row
sized =
    -- 1 alone
    row 1025 34 (site 70 70 189 190 90) home (refused 1)
    ∷ row 40 1025 (site 70 70 189 190 90) home (refused 1)
    ∷ row 4294967295 34 (site 70 70 189 190 90) home (refused 1)
    ∷ row 40 4294967295 (site 70 70 189 190 90) home (refused 1)
    -- 1, then 22 and 15
    ∷ row 0 34 (site 70 70 189 190 90) home (refused 1)
    ∷ row 40 0 (site 70 70 189 190 90) home (refused 1)
    ∷ row 0 0 (site 70 70 189 190 90) home (refused 1)
    ∷ row 1025 34 (site 70 70 189 190 1025) home (refused 1)
    ∷ row 40 1025 (site 70 70 70 70 90) home (refused 1)
    ∷ row 1025 34 (site 8201 0 0 0 90) (box 62 58 62 82) (refused 1)
    ∷ row 1025 34 (site 70 70 189 190 90) (box 62 58 62 82) (refused 1)
    ∷ row 40 1025 (site 70 70 189 190 90) (box 62 58 78 8201) (refused 1)
    -- both sides of the sizes: those that pass 1 are refused with 15 for their footprint
    ∷ row 1 1 (site 0 0 8 8 90) (box 1 1 1 1) (refused 15)
    ∷ row 1024 1 (site 0 0 8 8 90) (box 1 1 1 1) (refused 15)
    ∷ row 1 1024 (site 0 0 8 8 90) (box 1 1 1 1) (refused 15)
    ∷ row 1024 1024 (site 0 0 8 8 90) (box 1 1 1 1) (refused 15)
    ∷ row 1025 1 (site 0 0 8 8 90) (box 1 1 1 1) (refused 1)
    ∷ row 1 1025 (site 0 0 8 8 90) (box 1 1 1 1) (refused 1)
    ∷ row 0 1 (site 0 0 8 8 90) (box 1 1 1 1) (refused 1)
    ∷ row 1 0 (site 0 0 8 8 90) (box 1 1 1 1) (refused 1)
    ∷ []

pub map_sizes : map got sized ≡ map wanted sized
unfolding computing sized
map_sizes = refl

pub sited : List Row
sited =
    -- the radius
    row 40 34 (site 70 70 189 190 1024) home (rank 0 0 4)
    ∷ row 40 34 (site 70 70 189 190 1025) home (refused 22)
    ∷ row 40 34 (site 70 70 189 190 4294967295) home (refused 22)
    -- each end on the far edges, and one past each
    ∷ row 40 34 (site 320 190 189 190 1024) home (rank 28561 0 4)
    ∷ row 40 34 (site 321 190 189 190 1024) home (refused 22)
    ∷ row 40 34 (site 189 272 189 190 1024) home (rank 28561 0 4)
    ∷ row 40 34 (site 189 273 189 190 1024) home (refused 22)
    ∷ row 40 34 (site 320 272 189 190 1024) home (rank 28561 0 4)
    ∷ row 40 34 (site 0 0 189 190 1024) home (rank 0 19600 287284)
    ∷ row 40 34 (site 70 70 320 190 1024) home (rank 0 0 4)
    ∷ row 40 34 (site 70 70 321 190 1024) home (refused 22)
    ∷ row 40 34 (site 70 70 189 272 1024) home (rank 0 0 4)
    ∷ row 40 34 (site 70 70 189 273 1024) home (refused 22)
    ∷ row 40 34 (site 70 70 320 272 1024) home (rank 0 0 4)
    ∷ row 40 34 (site 70 70 0 0 1024) home (rank 0 0 4)
    -- across is not down
    ∷ row 40 34 (site 70 70 300 190 1024) home (rank 0 0 4)
    ∷ row 40 34 (site 70 70 189 300 1024) home (refused 22)
    ∷ row 34 40 (site 70 70 300 190 1024) home (refused 22)
    ∷ row 34 40 (site 70 70 189 300 1024) home (rank 0 0 4)
    -- two equal points; equal in one coordinate alone
    ∷ row 40 34 (site 70 70 70 70 90) home (refused 22)
    ∷ row 40 34 (site 0 0 0 0 90) home (refused 22)
    ∷ row 40 34 (site 320 272 320 272 90) home (refused 22)
    ∷ row 40 34 (site 70 70 70 190 90) home (rank 0 0 4)
    ∷ row 40 34 (site 70 70 189 70 90) home (rank 0 0 4)
    -- 22, then 15
    ∷ row 40 34 (site 70 70 189 190 1025) (box 62 58 62 82) (refused 22)
    ∷ row 40 34 (site 321 70 189 190 90) (rect (negsuc 0) (pos 58) (pos 78) (pos 82)) (refused 22)
    ∷ row 40 34 (site 70 70 189 273 90) (box 62 58 78 273) (refused 22)
    ∷ row 40 34 (site 70 70 70 70 90) (box 78 58 62 82) (refused 22)
    ∷ []

pub sites : map got sited ≡ map wanted sited
unfolding computing sited
sites = refl

pub placed : List Row
placed =
    -- empty and inverted
    near 90 (box 62 58 62 82) (refused 15)
    ∷ near 90 (box 62 58 78 58) (refused 15)
    ∷ near 90 (box 78 58 62 82) (refused 15)
    ∷ near 90 (box 62 82 78 58) (refused 15)
    ∷ near 90 (box 78 82 62 58) (refused 15)
    ∷ near 90 (rect (pos 2147483647) (pos 58) (negsuc 2147483647) (pos 82)) (refused 15)
    -- touching each edge of the map, and one past each
    ∷ near 1024 (box 0 58 78 82) (rank 961 0 4)
    ∷ near 1024 (rect (negsuc 0) (pos 58) (pos 78) (pos 82)) (refused 15)
    ∷ near 1024 (box 62 0 78 82) (rank 841 0 4)
    ∷ near 1024 (rect (pos 62) (negsuc 0) (pos 78) (pos 82)) (refused 15)
    ∷ near 1024 (box 62 58 320 82) (rank 7381 86636 114244)
    ∷ near 1024 (box 62 58 321 82) (refused 15)
    ∷ near 1024 (box 62 58 78 272) (rank 4474 84444 114244)
    ∷ near 1024 (box 62 58 78 273) (refused 15)
    ∷ near 1024 (box 0 0 320 272) (rank 303 99732 114244)
    ∷ near 1024 (rect (negsuc 2147483647) (negsuc 2147483647) (pos 2147483647) (pos 2147483647)) (refused 15)
    -- across is not down
    ∷ near 1024 (box 62 58 300 82) (rank 6212 5872 114244)
    ∷ near 1024 (box 62 58 78 300) (refused 15)
    ∷ []

pub footprints : map got placed ≡ map wanted placed
unfolding computing placed
footprints = refl

-- ---- which of two is closer: the first, the second or neither
pub record Pair : Type 0 where
  pub one : Rank
  pub other : Rank
  pub there : Bool
  pub back : Bool

unfoldable pub beside : Rank → Rank → Bool → Bool → Pair
beside a b x y = record { one = a; other = b; there = x; back = y }

unfoldable pub goes : Pair → List Bool
goes p = closer_rank p.one p.other ∷ closer_rank p.other p.one ∷ []

unfoldable pub must_go : Pair → List Bool
must_go p = p.there ∷ p.back ∷ []

pub compared : List Pair
compared =
    -- itself; equal fractions with other divisors
    beside (three 7 3 4) (three 7 3 4) false false
    ∷ beside (three 0 1 4) (three 0 2 8) false false
    ∷ beside (three 7140 1 4) (three 7140 28561 114244) false false
    ∷ beside (three 0 0 4) (three 0 0 536870912) false false
    -- the whole numbers first: lower, with a higher rest
    ∷ beside (three 1 3 4) (three 2 0 4) true false
    ∷ beside (three 2499 80445 114244) (three 2500 0 4) true false
    ∷ beside (three 0 536870911 536870912) (three 1 0 4) true false
    -- then the rests, each by its divisor: the higher rest is the lower fraction
    ∷ beside (three 0 1 4) (three 0 3 4) true false
    ∷ beside (three 5 2 16) (three 5 1 4) true false
    ∷ beside (three 0 57121 114244) (three 0 2 4) true false
    ∷ beside (three 0 536870910 536870912) (three 0 536870911 536870912) true false
    ∷ beside (three 3 536870910 536870911) (three 3 536870911 536870912) true false
    -- the largest numbers
    ∷ beside (three 18446744073709551615 3 4) (three 18446744073709551615 2 4) false true
    ∷ beside (three 18446744073709551614 3 4) (three 18446744073709551615 0 4) true false
    ∷ beside (three 18446744073709551615 536870911 536870912) (three 18446744073709551615 536870910 536870911) false true
    -- no rank is farther than every rank: the remainder not below the divisor, the divisor too large
    ∷ beside (three 18446744073709551615 3 4) (three 0 0 0) true false
    ∷ beside (three 18446744073709551615 3 4) (three 0 4 4) true false
    ∷ beside (three 18446744073709551615 3 4) (three 0 0 536870913) true false
    ∷ beside (three 18446744073709551615 3 4) (three 0 18446744073709551615 18446744073709551615) true false
    ∷ beside (three 18446744073709551615 0 1) (three 0 5 4) true false
    ∷ beside (three 0 7 8) (three 0 8 8) true false
    -- and none of those is closer than another
    ∷ beside (three 0 0 0) (three 0 0 0) false false
    ∷ beside (three 0 0 0) (three 1 4 4) false false
    ∷ beside (three 0 4 4) (three 0 5 4) false false
    ∷ beside (three 0 0 536870913) (three 1 0 536870913) false false
    ∷ beside (three 0 0 0) (three 18446744073709551615 18446744073709551615 18446744073709551615) false false
    ∷ []

pub closer_rows : map goes compared ≡ map must_go compared
unfolding computing beside goes must_go compared
closer_rows = refl
