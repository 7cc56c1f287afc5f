-- The words of request 12's "while both accept, both hold the same map". `obeyed` is an order on the μ-Tree's image
-- (crate log_lines), `plain_obeyed` on the plain tree's (crate compare_scores); `Holds g map img` says that the image is sound and
-- that its map is this one (crate theory_demands). Definitions alone; assumes nothing.
use Rattle.std.specs.Prelude.{◌≡◌, List, [], ◌∷◌, false, ◌⊎◌, ℕ, ◌<◌, None, Option, Some}
use Rattle.geometry.specs.declared.Entry.{Entry}
use Rattle.geometry.specs.Geometry.{small, plain}
use Rattle.geometry.specs.Bounds.{four_bytes}
use Rattle.model.specs.Edit.{put, remove}
use Rattle.model.specs.Calls.{Outcome}
use Rattle.text_lines.specs.Lines.{lines}
use Rattle.log_lines.specs.declared.Order.{Order}
use Rattle.log_lines.specs.declared.Order.TheVariants.{Format, Insert, Delete, Lookup, Limited}
use Rattle.log_lines.specs.Line.{Line, Of, Other}
use Rattle.log_lines.specs.Forms.{parsed}
use Rattle.log_lines.specs.Replay.{obeyed, blank_image, error_after, form_after}
use Rattle.compare_scores.specs.declared.Score.{Score}
use Rattle.compare_scores.specs.Scores.{plain_obeyed, stops, none_yet, scored}
use Rattle.compare_scores.specs.Compare.{report, compared}
use Rattle.theory_demands.specs.Words.{Holds, OneOf}

-- ---- an order on both images
pub record Images : Type 0 where
  pub mu_tree : List ℕ
  pub plain_tree : List ℕ

-- "Before any F the image is all 255"
abbrev pub blank_images : Images
blank_images = record { mu_tree = blank_image small; plain_tree = blank_image plain }

abbrev pub by_mu : Order → Images → Outcome
by_mu order x = obeyed small order x.mu_tree

abbrev pub by_plain : Order → Images → Outcome
by_plain order x = plain_obeyed order x.plain_tree

abbrev pub after_order : Order → Images → Images
after_order order x = record { mu_tree = (by_mu order x).image; plain_tree = (by_plain order x).image }

-- keys and addresses below 2^32
abbrev pub Fits : Order → Type 0
Fits Format = Unit {0}
Fits (Insert k a) = (k < four_bytes) × (a < four_bytes)
Fits (Delete k) = k < four_bytes
Fits (Lookup k) = k < four_bytes
Fits (Limited k a allowance) = (k < four_bytes) × (a < four_bytes)

-- ---- "while both accept": an order is accepted unless the answer is 3 WORN, 5 HEIGHT, 6 ROOM or 7 STOPPED
abbrev pub Accepts : Outcome → Type 0
Accepts o = OneOf o.answer (3 ∷ 5 ∷ 6 ∷ 7 ∷ []) → ⊥

abbrev pub BothAccept : Order → Images → Type 0
BothAccept order x = Accepts (by_mu order x) × Accepts (by_plain order x)

-- both answer by one number and one address; the pages that they program may differ
pub record Alike (order : Order) (x : Images) : Type 0 where
  pub answers : (by_mu order x).answer ≡ (by_plain order x).answer
  pub addresses : (by_mu order x).address ≡ (by_plain order x).address

-- ---- "both hold the same map"
-- a map once an order is carried out; a delete of an absent key changes nothing
abbrev pub carried_out : Order → List Entry → List Entry
carried_out Format map = []
carried_out (Insert k a) map = put k a map
carried_out (Delete k) map = remove k map
carried_out (Lookup k) map = map
carried_out (Limited k a allowance) map = put k a map

-- before the first Format there is none
abbrev pub map_after : Order → Option (List Entry) → Option (List Entry)
map_after order (Some map) = Some (carried_out order map)
map_after Format None = Some []
map_after (Insert k a) None = None
map_after (Delete k) None = None
map_after (Lookup k) None = None
map_after (Limited k a allowance) None = None

-- no map: both images are blank. A map: both images are sound, and it is the map of both
abbrev pub Same : Option (List Entry) → Images → Type 0
Same None x = x ≡ blank_images
Same (Some map) x = Holds small map x.mu_tree × Holds plain map x.plain_tree

-- ---- orders one after the other: the images and the map after them; that both accept each when its turn comes, and
-- that both answer each alike
unfoldable pub after_all : List Order → Images → Images
after_all [] x = x
after_all (order ∷ orders) x = after_all orders (after_order order x)

unfoldable pub map_after_all : List Order → Option (List Entry) → Option (List Entry)
map_after_all [] m = m
map_after_all (order ∷ orders) m = map_after_all orders (map_after order m)

unfoldable pub AllAccepted : List Order → Images → Type 0
AllAccepted [] x = Unit {0}
AllAccepted (order ∷ orders) x = BothAccept order x × AllAccepted orders (after_order order x)

unfoldable pub AllAlike : List Order → Images → Type 0
AllAlike [] x = Unit {0}
AllAlike (order ∷ orders) x = Alike order x × AllAlike orders (after_order order x)

-- ---- the orders of a text: those of its lines, up to the first line of another form
abbrev pub followed_by : Line → List Order → List Order
followed_by Other orders = []
followed_by (Of order) orders = order ∷ orders

unfoldable pub orders_in : List (List ℕ) → List Order
orders_in [] = []
orders_in (l ∷ ls) = followed_by (parsed l) (orders_in ls)

abbrev pub orders_of : List ℕ → List Order
orders_of input = orders_in (lines input).ended

-- ---- where a run of the comparing program comes to: its score, both images, the map by the orders so far, and the
-- lines that are left. It goes on after a line that neither tree answers by 5, 6 or 7
pub data Reaches (input : List ℕ) : Score → Images → Option (List Entry) → List (List ℕ) → Type 0 where
  at_start : Reaches input none_yet blank_images None (lines input).ended
  goes_on : (s : Score) (x : Images) (m : Option (List Entry)) (l : List ℕ) (ls : List (List ℕ)) (order : Order)
      → Reaches input s x m (l ∷ ls) → form_after s.lines l ≡ Of order → stops (by_mu order x) ≡ false → stops (by_plain order x) ≡ false
      → Reaches input (scored s order (by_mu order x) (by_plain order x)) (after_order order x) (map_after order m) ls

-- a line that is counted: both trees answer by 0, and both hold the same map, before it and after it
pub record Counted (order : Order) (x : Images) : Type 0 where
  pub mu_done : (by_mu order x).answer ≡ 0
  pub plain_done : (by_plain order x).answer ≡ 0
  pub map : List Entry
  pub before : Same (Some map) x
  pub after : Same (Some (carried_out order map)) (after_order order x)

-- the output is the report at a point that the run comes to, or E and the number of the line that comes next there
pub record Ended (input : List ℕ) : Type 0 where
  pub score : Score
  pub images : Images
  pub map : Option (List Entry)
  pub left : List (List ℕ)
  pub reached : Reaches input score images map left
  pub output : (compared input ≡ report score) ⊎ (compared input ≡ error_after score.lines)
