-- Tests in a row, each with the answer it gives, then the rest of a call: which test an answer stands for, said once
-- over any list of tests. Assumes nothing.
use Rattle.std.specs.Prelude.{◌≡◌, refl, List, [], ◌∷◌, ◌++◌, map, Bool, true, false, ◌⊎◌, ℕ, ◌≤◌}
use Rattle.std.proofs.Common.{inl, inr, arith}
use Rattle.geometry.specs.Tests.{pick}
use Rattle.model.specs.Calls.{Outcome, refused}
use Rattle.theory_lists.specs.All.{All}
use Rattle.theory_demands.specs.Words.{Began, OneOf}

pub record Test : Type 0 where
  pub met : Bool
  pub number : ℕ

-- the answer of the first test that is met, else the rest
abbrev pub tested : List ℕ → List Test → Outcome → Outcome
tested img [] o = o
tested img (t ∷ ts) o = pick t.met (refused t.number img) (tested img ts o)

-- an answer from 1 to 6 leaves the image
abbrev pub Untouched : List ℕ → Outcome → Type 0
Untouched img o = 1 ≤ o.answer → o.answer ≤ 6 → o.image ≡ img

-- a refusal's number
abbrev pub Refusal : Test → Type 0
Refusal t = (1 ≤ t.number) × (t.number ≤ 6)

abbrev pub Unmet : Test → Type 0
Unmet t = t.met ≡ false

-- a test with this number is met
abbrev pub Met : ℕ → List Test → Type 0
Met j [] = ⊥
Met j (t ∷ ts) = ((t.number ≡ j) × (t.met ≡ true)) ⊎ Met j ts

module _ (img : List ℕ) where
  pub tested_untouched : (ts : List Test) (o : Outcome) → Untouched img o → Untouched img (tested img ts o)
  tested_untouched [] o h = h
  tested_untouched (t ∷ ts) o h = go t.met (tested_untouched ts o h)
    where
      go : (x : Bool) → Untouched img (tested img ts o)
          → Untouched img (pick x (refused t.number img) (tested img ts o))
      go true w = λ p q. refl
      go false w = w

  -- a call that has begun has met none of them
  pub tested_passed : (ts : List Test) (o : Outcome) → All Refusal ts → Began (tested img ts o) → All Unmet ts ×
      (tested img ts o ≡ o)
  tested_passed [] o r b = (tt, refl)
  tested_passed (t ∷ ts) o r b = go t.met refl b (tested_passed ts o r.1)
    where
      go : (x : Bool) → t.met ≡ x → Began (pick x (refused t.number img) (tested img ts o))
          → (Began (tested img ts o) → All Unmet ts × (tested img ts o ≡ o))
          → (Unmet t × All Unmet ts) × (pick x (refused t.number img) (tested img ts o) ≡ o)
      go true e (inl h) f = absurd (omega (arith, h, r.0.0))
      go true e (inr h) f = absurd (omega (arith, h, r.0.1))
      go false e h f = let w = f h in ((e, w.0), w.1)

  one_more : (x i : ℕ) (ns : List ℕ) → OneOf x (0 ∷ ns) → OneOf x (0 ∷ i ∷ ns)
  one_more x i ns (inl e) = inl e
  one_more x i ns (inr w) = inr (inr w)

  -- the answer is 0, a test's number or 7
  pub tested_one : (ts : List Test) (o : Outcome) → Began o → OneOf (tested img ts o).answer
      (0 ∷ (map (λ (t : Test). t.number) ts ++ (7 ∷ [])))
  tested_one [] o (inl h) = inl h
  tested_one [] o (inr h) = inr (inl h)
  tested_one (t ∷ ts) o b = go t.met (one_more (tested img ts o).answer t.number (map (λ (u : Test). u.number) ts ++ (7 ∷ [])) (tested_one ts o b))
    where
      go : (x : Bool) → OneOf (tested img ts o).answer (0 ∷ t.number ∷ (map (λ (u : Test). u.number) ts ++ (7 ∷ [])))
          → OneOf (pick x (refused t.number img) (tested img ts o)).answer
          (0 ∷ t.number ∷ (map (λ (u : Test). u.number) ts ++ (7 ∷ [])))
      go true w = inr (inl refl)
      go false w = w

  -- a refusal is the number of a test that is met
  pub tested_met : (j : ℕ) (ts : List Test) (o : Outcome) → Began o → 1 ≤ j → j ≤ 6 → (tested img ts o).answer ≡ j
      → Met j ts
  tested_met j [] o (inl b) p q e = absurd (omega (arith, b, p, e))
  tested_met j [] o (inr b) p q e = absurd (omega (arith, b, q, e))
  tested_met j (t ∷ ts) o b p q e = go t.met refl e (tested_met j ts o b p q)
    where
      go : (x : Bool) → t.met ≡ x → (pick x (refused t.number img) (tested img ts o)).answer ≡ j
          → ((tested img ts o).answer ≡ j → Met j ts) → Met j (t ∷ ts)
      go true d h f = inl (h, d)
      go false d h f = inr (f h)

  -- where every number is 3 or more, so is a refusal
  pub tested_later : (ts : List Test) (o : Outcome) → All (λ t. 3 ≤ t.number) ts → Began o
      → 1 ≤ (tested img ts o).answer → 3 ≤ (tested img ts o).answer
  tested_later [] o h (inl b) p = absurd (omega (arith, b, p))
  tested_later [] o h (inr b) p = omega (arith, b)
  tested_later (t ∷ ts) o h b p = go t.met p (tested_later ts o h.1 b)
    where
      go : (x : Bool) → 1 ≤ (pick x (refused t.number img) (tested img ts o)).answer
          → (1 ≤ (tested img ts o).answer → 3 ≤ (tested img ts o).answer)
          → 3 ≤ (pick x (refused t.number img) (tested img ts o)).answer
      go true q f = h.0
      go false q f = f q
