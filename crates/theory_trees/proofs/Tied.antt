-- R6 in its short form, kept by what an update changes. Assumes nothing.
use Rattle.std.specs.Prelude.{◌≡◌, List, ℕ, zero, suc, ◌<◌, ◌≤◌}
use Rattle.std.proofs.Common.{subst, arith}
use Rattle.model.specs.Image.{Nodes}
use Rattle.model.specs.Tree.{Place}
use Rattle.theory_lists.specs.All.{All, Some, Mem, all_map, all_both, all_get}
use Rattle.theory_nodes.specs.Tied.{TiedTo, Tied}
use Rattle.theory_trees.specs.Move.{Tie}

tie_at : (r : Nodes) (p a j q : ℕ) → (q ≡ p → a ≤ j) → (q ≡ p → a < j → Some (λ e. e.addr ≡ p) (r p j)) → Tie r p a j q
tie_at r p a zero q f g = tt
tie_at r p a (suc j) q f g = λ i. (f i, g i)

-- R6 at the page p with lowest live level a
pub tie_all : (r : Nodes) (p a : ℕ) (spots : List Place) → Tied r spots → Mem (record { page = p; level = a }) spots
    → All (λ x. x.page ≡ p → a ≤ x.level) spots → All (λ x. Tie r p a x.level x.page) spots
tie_all r p a spots t m low =
    all_map (λ x. (x.page ≡ p → a ≤ x.level) × All (TiedTo r x) spots) (λ x. Tie r p a x.level x.page) spots
    (λ x h. tie_at r p a x.level x.page h.0 (λ i b. subst (λ q. Some (λ e. e.addr ≡ q) (r q x.level)) i
    (all_get (TiedTo r x) (record { page = p; level = a }) spots h.1 m i (omega (arith, b)))))
    (all_both (λ x. x.page ≡ p → a ≤ x.level) (λ x. All (TiedTo r x) spots) spots low t)
