-- Laws of the root that is left, in the form in which the code has the premises. Assumes nothing.
use Rattle.std.specs.Prelude.{ℕ, zero, suc, ◌-◌, ◌<◌, ◌≤◌, ◌≡◌, refl, List, [], ◌∷◌, take, get_or, length}
use Rattle.std.proofs.Common.{sym, ◌∙◌, arith, sub-one}
use Rattle.geometry.specs.declared.Entry.{Entry}
use Rattle.model.specs.Edit.{collapse}
use Rattle.model.specs.Image.{Nodes}
use Rattle.theory_lists.specs.Places.{length_mapped}
use Rattle.tree_node.specs.declared.Node.{Node}
use Rattle.tree_node.specs.Node.{entries}
use Rattle.tree_node.specs.Changes.{no_entry}
use Rattle.tree_load.specs.declared.Top.{Top}
use Rattle.tree_load.specs.Collapse.{first_of, Collapses}

first : (e : List Entry) (c : ℕ) → 0 < length e → 0 < c → get_or e 0 no_entry ≡ first_of (take c e)
unfolding first_of
first [] c h g = absurd (omega arith)
first (x ∷ e) zero h g = absurd (omega arith)
first (x ∷ e) (suc c) h g = refl

pub first_none : (n : Node) → n.count ≡ 0 → record { key = 0; addr = 0 } ≡ first_of (entries n)
unfolding entries first_of
first_none n z = rw z

pub first_some : (n : Node) → length n.e ≡ 256 → (n.count ≡ 0 → ⊥) → get_or n.e 0 no_entry ≡ first_of (entries n)
unfolding entries
first_some n len h = first n.e n.count (omega arith) (omega arith)

pub collapse_leaf : (r : Nodes) (l : ℕ) (c : Node) → c.count ≤ 256 → l ≡ 0 → Collapses r l (entries c)
    (record { level = 0; node = c })
unfolding collapse
collapse_leaf r zero c few z = record { level = refl; list = refl; few = few; low = omega arith }
collapse_leaf r (suc l) c few z = absurd (omega arith)

stays : (r : Nodes) (l : ℕ) (es : List Entry) → (length es ≡ 1 → ⊥) → (suc l ≡ (collapse r (suc l) es).level) ×
    (es ≡ (collapse r (suc l) es).list)
unfolding collapse
stays r l [] h = (refl, refl)
stays r l (x ∷ []) h = absurd (h refl)
stays r l (x ∷ y ∷ es) h = (refl, refl)

pub collapse_stay : (r : Nodes) (l m : ℕ) (c : Node) → m ≡ length (entries c) → c.count ≤ 256 → (m ≡ 1 → ⊥)
    → (l ≡ 0 → ⊥)
    → Collapses r l (entries c) (record { level = l; node = c })
collapse_stay r zero m c em few h z = absurd (z refl)
collapse_stay r (suc l) m c em few h z =
    let s = stays r l (entries c) (λ q. h (em ∙ q)) in
    record { level = s.0; list = s.1; few = few; low = omega arith }

falls : (r : Nodes) (l : ℕ) (es : List Entry) → length es ≡ 1 → collapse r (suc l) es ≡ collapse r l
    (r (first_of es).addr (suc l))
unfolding collapse first_of
falls r l [] h = absurd (omega arith)
falls r l (x ∷ []) h = refl
falls r l (x ∷ y ∷ es) h = absurd (omega arith)

pub collapse_on : (r : Nodes) (l m : ℕ) (c d : Node) (x : Entry) (t : Top) → Collapses r (l - 1) (entries d) t
    → x ≡ first_of (entries c) → entries d ≡ r x.addr l
    → m ≡ length (entries c) → m ≡ 1 → (l ≡ 0 → ⊥) → Collapses r l (entries c) t
collapse_on r zero m c d x t cl ex ed em h z = absurd (z refl)
collapse_on r (suc l) m c d x t cl ex ed em h z =
    let f : collapse r (suc l) (entries c) ≡ collapse r l (entries d) = falls r l (entries c) (sym em ∙ h)
    ∙ rw (ed, ex) in
    let k : Collapses r l (entries d) t = rw sub-one at cl in
    record {
      level = k.level ∙ rw f;
      list = k.list ∙ rw f;
      few = k.few;
      low = omega (arith, k.low);
    }

pub ruleset fall_laws = (length_mapped, first_none, first_some, collapse_leaf, collapse_stay, collapse_on)
