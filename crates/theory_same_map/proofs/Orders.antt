-- Both trees under one order, and under orders one after the other. Assumes nothing.
use Rattle.std.specs.Prelude.{◌≡◌, refl, List, [], ◌∷◌, ℕ, ◌+◌, ◌≤◌, None, Option, Some}
use Rattle.std.proofs.Common.{ap, sym, subst, ◌∙◌, arith}
use Rattle.geometry.specs.declared.Entry.{Entry}
use Rattle.geometry.specs.Geometry.{small, plain}
use Rattle.geometry.proofs.Shape.{small_shape}
use Rattle.geometry.specs.Shape.{shape_core, plain_core}
use Rattle.log_lines.specs.declared.Order.{Order}
use Rattle.log_lines.specs.declared.Order.TheVariants.{Format, Insert, Delete, Lookup, Limited}
use Rattle.log_lines.specs.Replay.{largest_allowance, obeyed, blank_image}
use Rattle.compare_scores.specs.Scores.{plain_obeyed}
use Rattle.theory_lists.specs.All.{All}
use Rattle.theory_demands.specs.Refusals.{Refuses, lookup_refuses, insert_refuses}
use Rattle.theory_demands.proofs.Refusals.{delete_refuses}
use Rattle.theory_demands.specs.Builds.{format_holds}
use Rattle.plain_updates.specs.Words.{plain_format_holds}
use Rattle.plain_updates.specs.Answers.{plain_insert_refuses, plain_delete_refuses}
use Rattle.theory_same_map.specs.Words.{Images, blank_images, by_mu, by_plain, after_order, Fits, BothAccept, Alike, map_after, Same}
use Rattle.theory_same_map.specs.Words.{after_all, map_after_all, AllAccepted, AllAlike}
use Rattle.theory_same_map.specs.Numbers.{largest_on}
use Rattle.theory_same_map.specs.Blank.{small_good, plain_good, blank_bytes, small_refused, plain_refused}
use Rattle.theory_same_map.proofs.Leaves.{Leaves, format_leaves}
use Rattle.theory_same_map.proofs.Trees.{mu_obeys, mu_unworn, plain_obeys, plain_unworn}

-- ---- what an accepted order leaves
pub record Step (order : Order) (m : Option (List Entry)) (x : Images) : Type 0 where
  pub alike : Alike order x
  pub same : Same (map_after order m) (after_order order x)
  pub mu_numbers : largest_on small (after_order order x).mu_tree ≤ largest_on small x.mu_tree + 191
  pub plain_numbers : largest_on plain (after_order order x).plain_tree ≤ largest_on plain x.plain_tree + 191

-- by what each tree leaves
step_by : (order : Order) (m : Option (List Entry)) (x : Images) {map : List Entry} {answer address : ℕ}
    → map_after order m ≡ Some map
    → Leaves small x.mu_tree answer address map (by_mu order x) → Leaves plain x.plain_tree answer address map
    (by_plain order x) → Step order m x
step_by order m x {map} e u v = record {
  alike = record { answers = u.answer_is ∙ sym v.answer_is; addresses = u.address_is ∙ sym v.address_is };
  same = subst (λ (m : Option (List Entry)). Same m (after_order order x)) (sym e) (u.holds, v.holds);
  mu_numbers = u.numbers;
  plain_numbers = v.numbers;
}

-- ---- blank images: every order but Format is answered by 2 and leaves them
pub record Refused (order : Order) : Type 0 where
  pub mu_answer : (by_mu order blank_images).answer ≡ 2
  pub plain_answer : (by_plain order blank_images).answer ≡ 2
  pub addresses : (by_mu order blank_images).address ≡ (by_plain order blank_images).address
  pub left : after_order order blank_images ≡ blank_images

refused_both : (order : Order) → Refuses small (blank_image small) (by_mu order blank_images)
    → Refuses plain (blank_image plain) (by_plain order blank_images)
    → Refused order
refused_both order a b =
    let u = small_refused (by_mu order blank_images) a in
    let v = plain_refused (by_plain order blank_images) b in
    record {
      mu_answer = u.0;
      plain_answer = v.0;
      addresses = u.1 ∙ sym v.1;
      left = λ i. record { mu_tree = u.2 i; plain_tree = v.2 i };
    }

insert_refused : (k a : ℕ) → Refused (Insert k a)
unfolding obeyed plain_obeyed
insert_refused k a = refused_both (Insert k a) (insert_refuses small (blank_image small) k a largest_allowance)
    (plain_insert_refuses (blank_image plain) k a largest_allowance)

delete_refused : (k : ℕ) → Refused (Delete k)
unfolding obeyed plain_obeyed
delete_refused k = refused_both (Delete k) (delete_refuses small (blank_image small) k largest_allowance)
    (plain_delete_refuses (blank_image plain) k largest_allowance)

lookup_refused : (k : ℕ) → Refused (Lookup k)
unfolding obeyed plain_obeyed
lookup_refused k = refused_both (Lookup k) (lookup_refuses small (blank_image small) k) (lookup_refuses plain (blank_image plain) k)

limited_refused : (k a al : ℕ) → Refused (Limited k a al)
unfolding obeyed plain_obeyed
limited_refused k a al = refused_both (Limited k a al) (insert_refuses small (blank_image small) k a al) (plain_insert_refuses (blank_image plain) k a al)

pub blank_refused : (order : Order) → (order ≡ Format → ⊥) → Refused order
blank_refused Format other = absurd (other refl)
blank_refused (Insert k a) other = insert_refused k a
blank_refused (Delete k) other = delete_refused k
blank_refused (Lookup k) other = lookup_refused k
blank_refused (Limited k a al) other = limited_refused k a al

-- from blank images, with answers below WORN
abbrev Started : Order → Type 0
Started order = Step order None blank_images × ((by_mu order blank_images).answer ≤ 2) × ((by_plain order blank_images).answer ≤ 2)

refused_started : (order : Order) → map_after order None ≡ None → Refused order → Started order
refused_started order e r = (
  record {
    alike = record { answers = r.mu_answer ∙ sym r.plain_answer; addresses = r.addresses };
    same = subst (λ (m : Option (List Entry)). Same m (after_order order blank_images)) (sym e) r.left;
    mu_numbers = (let z = ap (λ (x : Images). largest_on small x.mu_tree) r.left in omega (arith, z));
    plain_numbers = (let z = ap (λ (x : Images). largest_on plain x.plain_tree) r.left in omega (arith, z));
  },
  (let z = r.mu_answer in omega (arith, z)),
  (let z = r.plain_answer in omega (arith, z)),
)

started : (order : Order) → Started order
unfolding obeyed plain_obeyed
started Format =
    let u = format_leaves small (shape_core small small_shape) (blank_image small) small_good (blank_bytes small)
    (format_holds small small_shape (omega arith) (blank_image small) small_good (blank_bytes small)) in
    let v = format_leaves plain plain_core (blank_image plain) plain_good (blank_bytes plain)
    (plain_format_holds (blank_image plain) plain_good (blank_bytes plain)) in (
      step_by Format None blank_images refl u v,
      (let z = u.answer_is in omega (arith, z)),
      (let z = v.answer_is in
          omega (arith, z)),
    )
started (Insert k a) = refused_started (Insert k a) refl (insert_refused k a)
started (Delete k) = refused_started (Delete k) refl (delete_refused k)
started (Lookup k) = refused_started (Lookup k) refl (lookup_refused k)
started (Limited k a al) = refused_started (Limited k a al) refl (limited_refused k a al)

-- ---- one order
pub order_step : (order : Order) → Fits order → (m : Option (List Entry)) (x : Images) → Same m x → BothAccept order x
    → Step order m x
order_step order fits None x same accepts = subst (Step order None) (sym same) (started order).0
order_step order fits (Some map) x same accepts = step_by order (Some map) x refl
    (mu_obeys order fits map x.mu_tree same.0 accepts.0) (plain_obeys order fits map x.plain_tree same.1 accepts.1)

-- while the numbers are low, WORN is answered by neither
pub order_unworn : (order : Order) → Fits order → (m : Option (List Entry)) (x : Images) → Same m x → largest_on small
    x.mu_tree ≤ small.worn
    → largest_on plain x.plain_tree ≤ plain.worn → ((by_mu order x).answer ≡ 3 → ⊥) × ((by_plain order x).answer ≡ 3 → ⊥)
order_unworn order fits None x same low few =
    let w = subst (λ (y : Images). ((by_mu order y).answer ≤ 2) × ((by_plain order y).answer ≤ 2)) (sym same) ((started order).1, (started order).2) in
    ((λ e. omega (arith, w.0, e)), λ e. omega (arith, w.1, e))
order_unworn order fits (Some map) x same low few =
    (mu_unworn x.mu_tree same.0.ready low order fits, plain_unworn x.plain_tree same.1.ready few order fits)

-- ---- one after the other
pub orders_same : (orders : List Order) → All Fits orders → (m : Option (List Entry)) (x : Images) → Same m x
    → AllAccepted orders x
    → AllAlike orders x × Same (map_after_all orders m) (after_all orders x)
unfolding AllAccepted AllAlike map_after_all after_all
orders_same [] fits m x same accepted = (tt, same)
orders_same (order ∷ orders) fits m x same accepted =
    let s = order_step order fits.0 m x same accepted.0 in
    let rest = orders_same orders fits.1 (map_after order m) (after_order order x) s.same accepted.1 in
    ((s.alike, rest.0), rest.1)
