-- An insert of a present key into the plain tree (request 12) programs exactly as many pages as its height. Assumes
-- nothing.
use Rattle.std.specs.Prelude.{◌≡◌, refl, List, [], ◌∷◌, Bool, true, false, ℕ, zero, suc, ◌*◌, ◌<◌, ◌≤◌, eqb, length, is_none}
use Rattle.std.proofs.Common.{ap, ◌∙◌, arith}
use Rattle.geometry.specs.declared.Geometry.{Geometry}
use Rattle.geometry.specs.declared.Entry.{Entry}
use Rattle.geometry.specs.Tests.{bit, ◌&◌}
use Rattle.geometry.specs.Geometry.{half, root_most}
use Rattle.geometry.specs.Shape.{Core}
use Rattle.geometry.specs.Bounds.{four_bytes}
use Rattle.model.specs.Image.{Nodes, Chip, the_root}
use Rattle.model.specs.Tree.{chosen, sought}
use Rattle.model.specs.Stores.{programs}
use Rattle.model.specs.Edit.{gains, splits}
use Rattle.model.specs.Plain.{Plan, laid, plain_cuts, plain_grows, insert_plans}
use Rattle.theory_chips.specs.Whole.{Whole}
use Rattle.theory_chips.specs.PlainInsertion.{insert_pages, plans_count}

-- a present key splits nothing
no_gain : (r : Nodes) (k : ℕ) (half : ℕ → ℕ) (l : ℕ) (e : Entry) → gains r k half false l e ≡ false
unfolding gains ◌&◌
no_gain r k half zero e = refl
no_gain r k half (suc l) e = go (eqb (length (r e.addr (suc l))) (2 * half (suc l))) (no_gain r k half l (chosen k (r e.addr (suc l))))
  where
    go : (t : Bool) → gains r k half false l (chosen k (r e.addr (suc l))) ≡ false
        → (t & gains r k half false l (chosen k (r e.addr (suc l)))) ≡ false
    go true i = i
    go false i = refl

no_splits : (r : Nodes) (k : ℕ) (half : ℕ → ℕ) (l : ℕ) (e : Entry) → splits r k half false l e ≡ 0
unfolding splits
no_splits r k half zero e = refl
no_splits r k half (suc l) e = let x = ap bit (no_gain r k half (suc l) e) in let y =
    no_splits r k half l (chosen k (r e.addr (suc l))) in
    omega (arith, x, y)

pub present_pages : (g : Geometry) (c : Chip) (k : ℕ) → is_none (sought c k) ≡ false → insert_pages g c k ≡ suc c.level
unfolding plain_cuts plain_grows
present_pages g c k present =
    let x = ap (λ t. splits c.nodes k (half g) t (suc c.level) (the_root c)) present
    ∙ no_splits c.nodes k (half g) (suc c.level) (the_root c) in
    let y = ap bit (ap (λ t. gains c.nodes k (half g) t (suc c.level) (the_root c)) present ∙ no_gain c.nodes k
    (half g) (suc c.level) (the_root c)) in
    omega (arith, x, y)

-- every plan is one program
pub laid_programs : (g : Geometry) (n : ℕ) (c : Chip) (seq i : ℕ) (ps : List Plan) → programs (laid g n c seq i ps)
    ≡ length ps
unfolding laid programs
laid_programs g n c seq i [] = refl
laid_programs g n c seq i (x ∷ []) = refl
laid_programs g n c seq i (x ∷ y ∷ ps) = let h = laid_programs g n c seq (suc i) (y ∷ ps) in omega (arith, h)

pub present_programs : (g : Geometry) → Core g → (n k a : ℕ) → k < four_bytes → (c : Chip) → Whole g n c
    → root_most g (suc c.level) ≡ 2 * half g (suc c.level) → 1 ≤ half g (suc c.level)
    → 2 ≤ root_most g (suc (suc c.level))
    → is_none (sought c k) ≡ false → (seq : ℕ) → programs (laid g n c seq 0 (insert_plans g n c k a)) ≡ suc c.level
present_programs g core n k a k_low c good narrow some two present seq =
    laid_programs g n c seq 0 (insert_plans g n c k a)
    ∙ plans_count g core n k a k_low c good narrow some two ∙ present_pages g c k present
