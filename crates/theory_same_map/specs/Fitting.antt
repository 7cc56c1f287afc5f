-- Numbers of a line's order are below 2^32: they are read by `number_of`. Assumes nothing.
use Rattle.std.specs.Prelude.{◌≡◌, refl, List, [], ◌∷◌, Bool, true, false, ℕ, zero, suc, ◌<◌, take, ltb, None, Option, Some}
use Rattle.std.proofs.Common.{subst, arith, ltb-true}
use Rattle.geometry.specs.Tests.{pick}
use Rattle.geometry.specs.Bounds.{four_bytes}
use Rattle.text_lines.specs.Lines.{fields}
use Rattle.text_decimals.specs.Decimals.{number_of}
use Rattle.text_decimals.specs.Back.{number_most}
use Rattle.theory_lists.specs.All.{All}
use Rattle.log_lines.specs.declared.Order.{Order}
use Rattle.log_lines.specs.declared.Order.TheVariants.{Format, Insert, Delete, Lookup, Limited}
use Rattle.log_lines.specs.Line.{Line, Of, Other}
use Rattle.log_lines.specs.Forms.{is_letter, given, form_of, parsed}
use Rattle.log_lines.specs.Replay.{most_lines, form_after}
use Rattle.theory_same_map.specs.Words.{Fits, followed_by, orders_in}

abbrev LineFits : Line → Type 0
LineFits Other = Unit {0}
LineFits (Of order) = Fits order

given_fits : (w : List ℕ) (f : ℕ → Line) → ((n : ℕ) → n < four_bytes → LineFits (f n)) → LineFits (given (number_of w) f)
unfolding given
given_fits w f h = go (number_of w) refl
  where
    go : (o : Option ℕ) → number_of w ≡ o → LineFits (given o f)
    go None e = tt
    go (Some n) e = h n (let z = number_most w n e in omega (arith, z))

pick_fits : (b : Bool) (x y : Line) → LineFits x → LineFits y → LineFits (pick b x y)
pick_fits true x y p q = p
pick_fits false x y p q = q

form_fits : (ws : List (List ℕ)) → LineFits (form_of ws)
unfolding form_of
form_fits [] = tt
form_fits (w ∷ []) = pick_fits (is_letter 70 w) (Of Format) Other tt tt
form_fits (w ∷ x ∷ []) =
    pick_fits (is_letter 68 w) _ _ (given_fits x (λ k. Of (Delete k)) (λ k p. p))
    (pick_fits (is_letter 76 w) _ _ (given_fits x (λ k. Of (Lookup k)) (λ k p. p)) tt)
form_fits (w ∷ x ∷ y ∷ []) =
    pick_fits (is_letter 73 w) _ _ (given_fits x _ (λ k p. given_fits y (λ a. Of (Insert k a)) (λ a q. (p, q)))) tt
form_fits (w ∷ x ∷ y ∷ z ∷ []) =
    pick_fits (is_letter 83 w) _ _ (given_fits x _ (λ k p. given_fits y _ (λ a q. given_fits z (λ m. Of (Limited k a m)) (λ m r. (p, q))))) tt
form_fits (w ∷ x ∷ y ∷ z ∷ u ∷ us) = tt

pub parsed_fits : (line : List ℕ) (order : Order) → parsed line ≡ Of order → Fits order
parsed_fits line order e = subst LineFits e (form_fits (fields line))

-- the program's forms: a line's own, among the first 1,000,000
pub form_after_lem : (count : ℕ) (line : List ℕ) (order : Order) → form_after count line ≡ Of order → (count < most_lines) ×
    Fits order
unfolding form_after
form_after_lem count line order e = go (ltb count most_lines) refl e
  where
    go : (b : Bool) → ltb count most_lines ≡ b → pick b (parsed line) Other ≡ Of order → (count < most_lines) × Fits order
    go true d h = (ltb-true count most_lines d, parsed_fits line order h)
    go false d h = absurd (let z : ◌≡◌ {A = ℕ} 0 1 = cc in omega arith)

-- any beginning of a text's orders
pub orders_fit : (j : ℕ) (ls : List (List ℕ)) → All Fits (take j (orders_in ls))
unfolding orders_in
orders_fit zero ls = tt
orders_fit (suc j) [] = tt
orders_fit (suc j) (l ∷ ls) = go (parsed l) refl (orders_fit j ls)
  where
    go : (line : Line) → parsed l ≡ line → All Fits (take j (orders_in ls))
        → All Fits (take (suc j) (followed_by line (orders_in ls)))
    go Other e h = tt
    go (Of order) e h = (parsed_fits l order e, h)
