-- The comparing program's run: at every line that it comes to, both trees hold the same map, and neither answers WORN:
-- a line raises the largest number by at most 191, and there are at most 1,000,000 of them. Assumes nothing.
use Rattle.std.specs.Prelude.{◌≡◌, Bool, true, false, ◌⊎◌, ℕ, ◌+◌, ◌≤◌, None, Option, Some}
use Rattle.std.proofs.Math.Path.{refl}
use Rattle.std.proofs.Common.{ap, subst, ◌∙◌, arith, le-leb, eqb-true}
use mathlib.Core.List.{List, [], ◌∷◌}
use Rattle.std.proofs.Math.Logic.{inl, inr}
use Rattle.geometry.specs.declared.Entry.{Entry}
use Rattle.geometry.specs.Geometry.{small, plain}
use Rattle.geometry.specs.Tests.{pick, ◌&◌, and_left, and_right, and_both, and_false}
use Rattle.geometry.proofs.Shape.{small_shape}
use Rattle.geometry.specs.Shape.{shape_core, plain_core}
use Rattle.model.specs.Calls.{Outcome}
use Rattle.text_lines.specs.Lines.{lines}
use Rattle.log_lines.specs.declared.Order.{Order}
use Rattle.log_lines.specs.Line.{Line, Of, Other}
use Rattle.log_lines.specs.Replay.{error_after, form_after}
use Rattle.compare_scores.specs.declared.Score.{Score}
use Rattle.compare_scores.specs.Scores.{stops, is_update, counts, scored}
use Rattle.compare_scores.specs.Compare.{report, ending, met, reported, compared}
use Rattle.theory_counts.specs.Cases.{true_false}
use Rattle.theory_same_map.specs.Words.{Images, blank_images, by_mu, by_plain, after_order, Accepts, map_after, Same, Reaches, at_start, goes_on, Counted, Ended}
use Rattle.theory_same_map.specs.Runs.{Stands}
use Rattle.theory_same_map.specs.Fitting.{form_after_lem}
use Rattle.theory_same_map.specs.Blank.{small_good, plain_good, blank_numbers}
use Rattle.theory_same_map.proofs.Orders.{Step, blank_refused, order_step, order_unworn}

-- an order that does not stop the run, and is not answered by WORN, is accepted
goes_accepts : (o : Outcome) → stops o ≡ false → (o.answer ≡ 3 → ⊥) → Accepts o
goes_accepts o goes unworn = go
  where
    halt : 5 ≤ o.answer → o.answer ≤ 7 → ⊥
    halt p q = true_false (stops o) (and_both _ _ (le-leb 5 o.answer p) (le-leb o.answer 7 q)) goes

    go : Accepts o
    go (inl e) = unworn e
    go (inr (inl e)) = halt (omega (arith, e)) (omega (arith, e))
    go (inr (inr (inl e))) = halt (omega (arith, e)) (omega (arith, e))
    go (inr (inr (inr (inl e)))) = halt (omega (arith, e)) (omega (arith, e))
    go (inr (inr (inr (inr e)))) = e

one_more : (s : Score) (order : Order) (a b : Outcome) → (scored s order a b).lines ≡ s.lines + 1
unfolding scored
one_more s order a b = either (counts order a b) _ _ refl refl
  where
    either : (t : Bool) (u v : Score) → u.lines ≡ s.lines + 1 → v.lines ≡ s.lines + 1
        → (pick t u v).lines ≡ s.lines + 1
    either true u v d e = d
    either false u v d e = e

one_line : (s : Score) (x : Images) (l : List ℕ) (ls : List (List ℕ)) (rest : List ℕ) (order : Order)
    → form_after s.lines l ≡ Of order
    → stops (by_mu order x) ≡ false → stops (by_plain order x) ≡ false
    → reported s x.mu_tree x.plain_tree (l ∷ ls) rest
    ≡ reported (scored s order (by_mu order x) (by_plain order x)) (after_order order x).mu_tree
    (after_order order x).plain_tree ls rest
unfolding reported met ◌&◌
one_line s x l ls rest order form p q = rw (form, p, q) refl

-- the next order of a run that goes on
pub stands_step : (s : Score) (x : Images) (m : Option (List Entry)) (l : List ℕ) (order : Order) → Stands s x m
    → form_after s.lines l ≡ Of order
    → (((by_mu order x).answer ≡ 3 → ⊥) × ((by_plain order x).answer ≡ 3 → ⊥))
    × (stops (by_mu order x) ≡ false → stops (by_plain order x) ≡ false → Step order m x)
stands_step s x m l order h form =
    let f = form_after_lem s.lines l order form in
    let a = h.mu_numbers in
    let b = h.plain_numbers in
    let u = order_unworn order f.1 m x h.same (omega (arith, a, f.0)) (omega (arith, b, f.0)) in
    (u, λ p q. order_step order f.1 m x h.same (goes_accepts (by_mu order x) p u.0, goes_accepts (by_plain order x) q u.1))

-- ---- a counted line: both answer by 0, so it does not stop the run
zero_goes : (o : Outcome) → o.answer ≡ 0 → stops o ≡ false
zero_goes o e = rw e (and_false _)

-- an update is no Format, so blank images refuse it
update_mapped : (order : Order) → is_update order ≡ true → (by_mu order blank_images).answer ≡ 0 → ⊥
update_mapped order up e = let z = (blank_refused order (λ f. true_false (is_update order) up (ap is_update f))).mu_answer in omega (arith, z, e)

pub line_counted : (s : Score) (x : Images) (m : Option (List Entry)) (l : List ℕ) (order : Order) → Stands s x m
    → form_after s.lines l ≡ Of order
    → counts order (by_mu order x) (by_plain order x) ≡ true → Counted order x
line_counted s x m l order h form c = go m h.same ((stands_step s x m l order h form).1 (zero_goes (by_mu order x) p) (zero_goes (by_plain order x) q)).same
  where
    p : (by_mu order x).answer ≡ 0
    p = eqb-true (by_mu order x).answer 0 (and_right _ _ (and_left _ _ c))

    q : (by_plain order x).answer ≡ 0
    q = eqb-true (by_plain order x).answer 0 (and_right _ _ c)

    go : (m : Option (List Entry)) → Same m x → Same (map_after order m) (after_order order x) → Counted order x
    go None same next = absurd (update_mapped order (and_left _ _ (and_left _ _ c)) (subst (λ (y : Images). (by_mu order y).answer ≡ 0) same p))
    go (Some map) same next = record { mu_done = p; plain_done = q; map = map; before = same; after = next }

module _ (input : List ℕ) where
  pub stands : (s : Score) (x : Images) (m : Option (List Entry)) (ls : List (List ℕ)) → Reaches input s x m ls
      → Stands s x m
  stands s x m ls at_start = record {
    same = refl;
    mu_numbers = blank_numbers small (shape_core small small_shape) small_good;
    plain_numbers = blank_numbers plain plain_core plain_good;
  }
  stands _ _ _ _ (goes_on s x m l ls order r form p q) =
      let h = stands s x m (l ∷ ls) r in
      let z = (stands_step s x m l order h form).1 p q in
      let n = one_more s order (by_mu order x) (by_plain order x) in
      record {
        same = z.same;
        mu_numbers = (let a = z.mu_numbers in let b = h.mu_numbers in omega (arith, a, b, n));
        plain_numbers = (let a = z.plain_numbers in let b = h.plain_numbers in omega (arith, a, b, n));
      }

  -- what the program writes, from there on
  pub writes : (s : Score) (x : Images) (m : Option (List Entry)) (ls : List (List ℕ)) → Reaches input s x m ls
      → compared input ≡ reported s x.mu_tree x.plain_tree ls (lines input).rest
  unfolding compared
  writes s x m ls at_start = refl
  writes _ _ _ _ (goes_on s x m l ls order r form p q) =
      writes s x m (l ∷ ls) r ∙ one_line s x l ls (lines input).rest order form p q

  -- the run ends: at the end of the text, at a line of another form, or at an order that stops it
  pub ends : (s : Score) (x : Images) (m : Option (List Entry)) (ls : List (List ℕ)) → Reaches input s x m ls
      → Ended input
  unfolding ending reported met ◌&◌
  ends s x m [] r = record { score = s; images = x; map = m; left = []; reached = r; output = go (lines input).rest (writes s x m [] r) }
    where
      go : (rest : List ℕ) → compared input ≡ reported s x.mu_tree x.plain_tree [] rest
          → (compared input ≡ report s) ⊎ (compared input ≡ error_after s.lines)
      go [] e = inl e
      go (b ∷ bs) e = inr e
  ends s x m (l ∷ ls) r = next (form_after s.lines l) refl (λ order form p q.
      ends (scored s order (by_mu order x) (by_plain order x)) (after_order order x) (map_after order m) ls (goes_on s x m l ls order r form p q))
    where
      Here : Type 0
      Here = (compared input ≡ report s) ⊎ (compared input ≡ error_after s.lines)

      here : Here → Ended input
      here o = record { score = s; images = x; map = m; left = l ∷ ls; reached = r; output = o }

      by : (order : Order) → form_after s.lines l ≡ Of order → (t u : Bool) → stops (by_mu order x) ≡ t
          → stops (by_plain order x) ≡ u
          → (stops (by_mu order x) ≡ false → stops (by_plain order x) ≡ false → Ended input) → Ended input
      by order form false false p q on = on p q
      by order form true u p q on = here (inl (writes s x m (l ∷ ls) r ∙ rw (form, p) refl))
      by order form false true p q on = here (inl (writes s x m (l ∷ ls) r ∙ rw (form, p, q) refl))

      next : (line : Line) → form_after s.lines l ≡ line
          → ((order : Order) → form_after s.lines l ≡ Of order → stops (by_mu order x) ≡ false
          → stops (by_plain order x) ≡ false → Ended input)
          → Ended input
      next Other form on = here (inr (writes s x m (l ∷ ls) r ∙ rw form refl))
      next (Of order) form on = by order form (stops (by_mu order x)) (stops (by_plain order x)) refl refl (on order form)
