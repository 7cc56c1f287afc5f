-- Descent, in the form in which the code has the premises. Assumes nothing.
use Rattle.std.specs.Prelude.{ℕ, zero, suc, ◌+◌, ◌-◌, ◌<◌, ◌≤◌, ◌≡◌, refl, List, Option}
use Rattle.std.proofs.Common.{sym, ap, ◌∙◌, arith, sub-one, add-one}
use Rattle.geometry.specs.declared.Geometry.{Geometry}
use Rattle.geometry.specs.declared.Entry.{Entry}
use Rattle.model.specs.Bytes.{node_at}
use Rattle.model.specs.Image.{Nodes}
use Rattle.model.specs.Tree.{chosen, leaf, find_in, sought}
use Rattle.chip_read.specs.Chip.{naming, chip_with}

-- descent asks an entry for its page only
leaf_named : (r : Nodes) (k l : ℕ) (e : Entry) → leaf r k l e ≡ leaf r k l (naming e.addr)
unfolding leaf
leaf_named r k zero e = refl
leaf_named r k (suc l) e = refl

leaf_step : (r : Nodes) (k l p : ℕ) → 0 < l → leaf r k l (naming p) ≡ leaf r k (l - 1) (chosen k (r p (l + 1)))
unfolding leaf
leaf_step r k zero p h = absurd (omega arith)
leaf_step r k (suc l) p h = rw (add-one (suc l), sub-one) refl

pub leaf_go : (g : Geometry) (img : List ℕ) (w : List Entry) (k l p : ℕ) (e : Entry) → w ≡ leaf (node_at g img) k l
    (naming p) → e ≡ chosen k (node_at g img p (l + 1)) → 0 < l
    → w ≡ leaf (node_at g img) k (l - 1) (naming e.addr)
leaf_go g img w k l p e inv ee h =
    inv ∙ leaf_step (node_at g img) k l p h ∙ rw (← ee) (leaf_named (node_at g img) k (l - 1) e)

pub leaf_end : (g : Geometry) (img : List ℕ) (w : List Entry) (k l p : ℕ) → w ≡ leaf (node_at g img) k l (naming p)
    → l ≤ 0 → node_at g img p 1 ≡ w
unfolding leaf
leaf_end g img w k l p inv h =
    let z : l ≡ 0 = omega arith in
    sym (inv ∙ rw z refl)

pub sought_is : (g : Geometry) (img : List ℕ) (l p k q : ℕ) (r : Option ℕ) → node_at g img q 1 ≡ leaf (node_at g img) k l
    (naming p)
    → r ≡ find_in k (node_at g img q 1) → r ≡ sought (chip_with g img l p) k
sought_is g img l p k q r e er = er ∙ ap (λ (es : List Entry). find_in k es) e

pub ruleset descent_laws = (leaf_go, leaf_end, sought_is)
