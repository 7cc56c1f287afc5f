-- Laws of the store that moves a page, in the form in which the code has the premises. Assumes nothing.
use Rattle.std.specs.Prelude.{ℕ, suc, ◌+◌, ◌<◌, ◌≤◌, ◌≡◌, refl, List, [], ◌∷◌, leb}
use Rattle.std.proofs.Common.{ap, ◌∙◌, add-one, le-leb}
use Rattle.std.proofs.lemmas.Bool.{lt-leb}
use Rattle.geometry.specs.declared.Geometry.{Geometry}
use Rattle.geometry.specs.declared.Entry.{Entry}
use Rattle.geometry.specs.Tests.{pick}
use Rattle.geometry.specs.Bounds.{longest_page}
use Rattle.model.specs.Bytes.{node_at}
use Rattle.model.specs.Tree.{following}
use Rattle.tree_node.specs.declared.Node.{Node}
use Rattle.tree_node.specs.Node.{entries}
use Rattle.chip_page.specs.Page.{blanks}
use Rattle.chip_store.specs.declared.Budget.{Budget}
use Rattle.chip_store.specs.Run.{Ran}
use Rattle.chip_store.specs.Runs.{ran_then}
use Rattle.tree_split.specs.declared.Change.{Change}
use Rattle.tree_split.specs.declared.Change.TheVariants.{Rename}
use Rattle.tree_split.specs.declared.Job.{Job}
use Rattle.tree_split.specs.Step.{stores_of}
use Rattle.tree_path.specs.declared.Changed.{Changed}
use Rattle.tree_path.specs.Edit.{Changes}
use Rattle.tree_path.specs.WayUp.{still}
use Rattle.tree_root.specs.Crown.{path_store}
use Rattle.tree_move.specs.Own.{store_by, Moves}

pub key_is : (g : Geometry) (i : List ℕ) (p l k : ℕ) (c : Node) → k ≡ following (entries c) 0 → entries c ≡ node_at g i p l
    → k ≡ following (node_at g i p l) 0
key_is g i p l k c ek ec = ek ∙ rw ec

pub from_none : (low l : ℕ) (c n : Node) → entries n ≡ [] → l < low → entries n ≡ pick (leb low l) (entries c) []
from_none low l c n e h = e ∙ rw (lt-leb low l h)

pub from_some : (low l : ℕ) (c : Node) → low ≤ l → entries c ≡ pick (leb low l) (entries c) []
from_some low l c h = rw (le-leb low l h)

nothing : (g : Geometry) (j : Job) (low m : ℕ) (c : List Entry) → j.change ≡ Rename low → stores_of g j.change j m c
    ≡ []
unfolding stores_of
nothing g j low m c e = ap (λ (v : Change). stores_of g v j m c) e

pub with_is : (g : Geometry) (j : Job) (low l : ℕ) (e : Entry) (b r : Budget) (u : Changed) (n : Node) (i h o p
    q : List ℕ) → Ran g (path_store g j.page (j.seq + 1) l (entries n) q ∷ []) u.budget r h o
    → Changes g j l e b u i h p q → entries n ≡ pick (leb low (l + 1)) (entries u.node) [] → p ≡ blanks longest_page
    → j.change ≡ Rename low → Ran g (store_by g j low l e i ∷ []) b r i o
unfolding store_by
with_is g j low l e b r u n i h o p q run ch en ep ec =
    let s = still g j l e b u i h p q ch (λ m c. nothing g j low m c ec) in
    let a : l + 1 ≡ suc l = add-one l in
    let t : j.seq + 1 ≡ suc j.seq = add-one j.seq in
    ran_then g [] (_ ∷ []) b u.budget r i i o s.1 (rw (s.0, en, a, t, ch.node, ch.page, ep) at run)

pub moves : (most m low k : ℕ) (ps : List ℕ) → Moves most m low k
    (record { key = k; page = m; seq = most; sides = ps; change = Rename low })
moves most m low k ps = record { key = refl; change = refl; number = refl; page = refl }

pub seq_low : (most m low k : ℕ) (j : Job) → Moves most m low k j → most < 8589934592 → j.seq < 8589934592
seq_low most m low k j w h = rw w.number h

pub ruleset moving_laws = (key_is, from_none, from_some, with_is, moves, seq_low)
