-- Laws of delete's own store, in the form in which the code has the premises. Assumes nothing.
use Rattle.std.specs.Prelude.{ℕ, suc, ◌+◌, ◌≡◌, List, [], ◌∷◌, take}
use Rattle.std.proofs.Common.{sym, ap, ◌∙◌, add-one, eq-eqb, ne_eqb}
use Rattle.geometry.specs.declared.Geometry.{Geometry}
use Rattle.geometry.specs.declared.Entry.{Entry}
use Rattle.geometry.specs.Geometry.{page_bytes}
use Rattle.geometry.specs.Bounds.{longest_page}
use Rattle.model.specs.Bytes.{node_at}
use Rattle.model.specs.Edit.{collapse}
use Rattle.model.specs.Page.{built, only}
use Rattle.model.specs.Stores.{program}
use Rattle.tree_node.specs.Node.{entries}
use Rattle.chip_page.specs.Page.{blanks}
use Rattle.chip_store.specs.declared.Budget.{Budget}
use Rattle.chip_store.specs.Run.{Ran}
use Rattle.chip_store.specs.Runs.{ran_then}
use Rattle.tree_split.specs.declared.Change.{Change}
use Rattle.tree_split.specs.declared.Change.TheVariants.{Remove}
use Rattle.tree_split.specs.declared.Job.{Job}
use Rattle.tree_split.specs.Step.{stores_of}
use Rattle.tree_path.specs.declared.Changed.{Changed}
use Rattle.tree_path.specs.Edit.{Changes}
use Rattle.tree_path.specs.WayUp.{still}
use Rattle.tree_load.specs.declared.Top.{Top}
use Rattle.tree_load.specs.Collapse.{Collapses}
use Rattle.tree_root.specs.declared.Own.{Own}
use Rattle.tree_root.specs.Crown.{path_store}
use Rattle.tree_root.specs.Owns.{Owns}
use Rattle.tree_delete.specs.Own.{top_store, root_store, left_at, store_by, top_by}

-- ---- page N
pub top_is : (g : Geometry) (at seq l : ℕ) (c : List Entry) (bs : List ℕ) (b r : Budget) (i o : List ℕ)
    → Ran g (program at (take (page_bytes g) bs) ∷ []) b r i o → take (page_bytes g) bs ≡ built g seq
    (l + 1) (only (l + 1) c)
    → Ran g (top_store g at seq l c ∷ []) b r i o
unfolding top_store
top_is g at seq l c bs b r i o run eb =
    let s : l + 1 ≡ suc l = add-one l in
    rw (eb, s) at run

pub root_stay : (g : Geometry) (j : Job) (l : ℕ) (i p o : List ℕ) (c : List Entry) (t : Top) (b r : Budget)
    → Ran g (path_store g j.page (j.seq + 1) l c p ∷ []) b r i o
    → Collapses (node_at g i) l c t → t.level ≡ l → Owns g (root_store g j l i p c ∷ []) (left_at g j l i c) b
    (record { budget = r; page = j.page; level = l }) i o
unfolding root_store
root_stay g j l i p o c t b r run cl q =
    let s : j.seq + 1 ≡ suc j.seq = add-one j.seq in
    let e : (collapse (node_at g i) l c).level ≡ l = sym cl.level ∙ q in
    record { ran = rw (eq-eqb (collapse (node_at g i) l c).level l e) (rw s at run); crest = rw e }

pub root_fall : (g : Geometry) (j : Job) (l : ℕ) (i p o : List ℕ) (c : List Entry) (t : Top) (b r : Budget)
    → Ran g (top_store g j.page (j.seq + 1) t.level (entries t.node) ∷ []) b r i o
    → Collapses (node_at g i) l c t → (t.level ≡ l → ⊥) → Owns g (root_store g j l i p c ∷ []) (left_at g j l i c) b
    (record { budget = r; page = j.page; level = t.level }) i o
unfolding root_store
root_fall g j l i p o c t b r run cl q =
    let s : j.seq + 1 ≡ suc j.seq = add-one j.seq in
    record {
      ran = rw (ne_eqb (collapse (node_at g i) l c).level l (λ z. q (cl.level ∙ z))) (rw (s, cl.level, cl.list) at run);
      crest = rw cl.level;
    }

-- ---- the whole
nothing : (g : Geometry) (j : Job) (m : ℕ) (c : List Entry) → j.change ≡ Remove → stores_of g j.change j m c ≡ []
unfolding stores_of
nothing g j m c e = ap (λ (v : Change). stores_of g v j m c) e

pub with_is : (g : Geometry) (j : Job) (l : ℕ) (e : Entry) (b : Budget) (r : Own) (u : Changed) (i h o p q : List ℕ)
    → Owns g (root_store g j l h q (entries u.node) ∷ []) (left_at g j l h (entries u.node)) u.budget r h o
    → Changes g j l e b u i h p q → p ≡ blanks longest_page → j.change ≡ Remove
    → Owns g (store_by g j l e i ∷ []) (top_by g j l e i) b r i o
unfolding store_by
with_is g j l e b r u i h o p q w ch ep ec =
    let s = still g j l e b u i h p q ch (λ m c. nothing g j m c ec) in
    record {
      ran = ran_then g [] (_ ∷ []) b u.budget r.budget i i o s.1 (rw (s.0, ch.node, ch.page, ep) at w.ran);
      crest = w.crest ∙ rw (s.0, ch.node);
    }

pub ruleset deletion_laws = (top_is, root_stay, root_fall, with_is)
