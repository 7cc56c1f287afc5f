-- Request 12: "Show that while both accept, both hold the same map". `Words` has the words. Every proof here is one
-- citation; assumes nothing.
use Rattle.std.specs.Prelude.{◌≡◌, refl, List, ◌∷◌, true, false, ℕ, take, None, Option, Some}
use Rattle.std.proofs.Common.{sym, ◌∙◌}
use Rattle.geometry.specs.declared.Entry.{Entry}
use Rattle.geometry.specs.Geometry.{small, plain}
use Rattle.text_lines.specs.Lines.{lines}
use Rattle.log_lines.specs.declared.Order.{Order}
use Rattle.log_lines.specs.declared.Order.TheVariants.{Format}
use Rattle.log_lines.specs.Line.{Of}
use Rattle.log_lines.specs.Replay.{form_after}
use Rattle.compare_scores.specs.declared.Score.{Score}
use Rattle.compare_scores.specs.Scores.{stops, none_yet, counts}
use Rattle.compare_scores.specs.Compare.{reported, compared}
use Rattle.theory_lists.specs.All.{All}
use Rattle.theory_demands.specs.Words.{map_at}
use Rattle.theory_same_map.specs.Words.{Images, blank_images, by_mu, by_plain, after_order, Fits, BothAccept, Alike, map_after, Same}
use Rattle.theory_same_map.specs.Words.{after_all, map_after_all, AllAccepted, AllAlike, orders_of, Reaches, at_start, Counted, Ended}
use Rattle.theory_same_map.specs.Fitting.{orders_fit}
use Rattle.theory_same_map.proofs.Orders.{order_step, blank_refused, orders_same}
use Rattle.theory_same_map.proofs.Runs.{line_counted, stands_step, stands, writes, ends}

-- ---- images under the same map: their maps are equal, pair by pair
pub maps_equal : (map : List Entry) (x : Images) → Same (Some map) x → map_at small x.mu_tree ≡ map_at plain
    x.plain_tree
maps_equal map x same = same.0.map_is ∙ sym same.1.map_is

-- ---- one order that both accept: both answer alike, and both hold the same map again, the old one with the order
-- carried out
pub order_same : (order : Order) → Fits order → (m : Option (List Entry)) (x : Images) → Same m x → BothAccept order x
    → Alike order x × Same (map_after order m) (after_order order x)
order_same order fits m x same accepts = let s = order_step order fits m x same accepts in (s.alike, s.same)

-- before the first Format both refuse by 2, and nothing changes
pub blank_same : (order : Order) → (order ≡ Format → ⊥)
    → ((by_mu order blank_images).answer ≡ 2) × ((by_plain order blank_images).answer ≡ 2) ×
    (after_order order blank_images ≡ blank_images)
blank_same order other = let r = blank_refused order other in (r.mu_answer, r.plain_answer, r.left)

-- ---- any log, from blank images: while both accept, both answer each order alike, and both hold the same map: the one
-- that the orders make
pub log_same : (orders : List Order) → All Fits orders → AllAccepted orders blank_images
    → AllAlike orders blank_images × Same (map_after_all orders None) (after_all orders blank_images)
log_same orders fits accepted = orders_same orders fits None blank_images refl accepted

-- any text, as far as its lines have a form: its first j orders
pub text_same : (input : List ℕ) (j : ℕ) → AllAccepted (take j (orders_of input)) blank_images
    → AllAlike (take j (orders_of input)) blank_images × Same (map_after_all (take j (orders_of input)) None)
    (after_all (take j (orders_of input)) blank_images)
text_same input j accepted = log_same (take j (orders_of input)) (orders_fit j (lines input).ended) accepted

-- ---- the comparing program, on any text: its output is the report at a point that it comes to, or E and a line's
-- number
pub run_ends : (input : List ℕ) → Ended input
run_ends input = ends input none_yet blank_images None (lines input).ended at_start

-- at each line that it comes to, both hold the same map, or both are blank
module _ (input : List ℕ) (s : Score) (x : Images) (m : Option (List Entry)) where
  pub run_same : (ls : List (List ℕ)) → Reaches input s x m ls → Same m x
  run_same ls r = (stands input s x m ls r).same

  -- what it writes is what its run makes of the lines that are left
  pub run_writes : (ls : List (List ℕ)) → Reaches input s x m ls → compared input ≡ reported s x.mu_tree
      x.plain_tree ls (lines input).rest
  run_writes ls r = writes input s x m ls r

  module _ (l : List ℕ) (ls : List (List ℕ)) (order : Order) (r : Reaches input s x m
      (l ∷ ls)) (form : form_after s.lines l ≡ Of order) where
    -- no line is answered by 3 WORN
    pub run_unworn : ((by_mu order x).answer ≡ 3 → ⊥) × ((by_plain order x).answer ≡ 3 → ⊥)
    run_unworn = (stands_step s x m l order (stands input s x m (l ∷ ls) r) form).0

    -- a line that it goes on after is answered alike
    pub run_alike : stops (by_mu order x) ≡ false → stops (by_plain order x) ≡ false → Alike order x
    run_alike p q = ((stands_step s x m l order (stands input s x m (l ∷ ls) r) form).1 p q).alike

    -- a line that it counts: both answered by 0, and both hold the same map, before it and after it
    pub run_counts : counts order (by_mu order x) (by_plain order x) ≡ true → Counted order x
    run_counts h = line_counted s x m l order (stands input s x m (l ∷ ls) r) form h
