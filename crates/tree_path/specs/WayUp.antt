-- Laws of the way up, in the form in which the code has the premises. Assumes nothing.
use Rattle.std.specs.Prelude.{ℕ, zero, suc, ◌+◌, ◌-◌, ◌<◌, ◌≤◌, ◌≡◌, refl, List, [], ◌++◌, take}
use Rattle.std.proofs.Math.Path.{sym}
use Rattle.std.proofs.Common.{◌∙◌, arith, add-one, sub-one}
use Rattle.geometry.specs.declared.Geometry.{Geometry}
use Rattle.geometry.specs.declared.Entry.{Entry}
use Rattle.model.specs.Bytes.{node_at}
use Rattle.model.specs.Tree.{chosen}
use Rattle.model.specs.Edit.{put_in, remove_in, edited}
use Rattle.model.specs.Stores.{Store, apply_all}
use Rattle.tree_node.specs.declared.Node.{Node}
use Rattle.tree_node.specs.Node.{entries, carried, replace_by}
use Rattle.chip_page.specs.Page.{laid_level, laid}
use Rattle.chip_page.specs.Levels.{laid_none, laid_more, laid_agree}
use Rattle.chip_store.specs.declared.Budget.{Budget}
use Rattle.chip_store.specs.Careful.{careful}
use Rattle.chip_store.specs.Run.{Ran}
use Rattle.chip_store.specs.Runs.{ran_none, ran_then}
use Rattle.tree_split.specs.declared.Change.{Change}
use Rattle.tree_split.specs.declared.Change.TheVariants.{Put, Remove, Rename}
use Rattle.tree_split.specs.declared.Job.{Job}
use Rattle.tree_split.specs.declared.Climbed.{Climbed}
use Rattle.tree_split.specs.Step.{leaf_of, name_of, part_of, stores_of, Finished}
use Rattle.tree_load.specs.declared.Taken.{Taken}
use Rattle.tree_load.specs.Load.{Takes}
use Rattle.tree_load.specs.Places.{splice_is}
use Rattle.tree_path.specs.declared.Changed.{Changed}
use Rattle.tree_path.specs.Edit.{changed, path_of, parts_of, sides_up, Rejoined, Changes}
use Rattle.tree_path.specs.Paths.{path_top, path_below}

-- ---- the leaf
pub leaf_put : (w : Change) (k a : ℕ) (m : Node) (es : List Entry) → entries m ≡ put_in k a es → w ≡ Put a
    → entries m ≡ leaf_of w k es
unfolding leaf_of
leaf_put w k a m es em q = em ∙ rw q

pub leaf_remove : (w : Change) (k : ℕ) (m : Node) (es : List Entry) → entries m ≡ remove_in k es → w ≡ Remove
    → entries m ≡ leaf_of w k es
unfolding leaf_of
leaf_remove w k m es em q = em ∙ rw q

pub leaf_same : (w : Change) (k a : ℕ) (m : Node) (es : List Entry) → entries m ≡ es → w ≡ Rename a
    → entries m ≡ leaf_of w k es
unfolding leaf_of
leaf_same w k a m es em q = em ∙ rw q

-- ---- one level up
pub rejoined : (g : Geometry) (j : Job) (l : ℕ) (t : Taken) (c : List Entry)
    (n : Node) (b : Budget) (f : Climbed) (i o p q : List ℕ)
    → Finished g j l t.entry c b f i o p q → entries n ≡ replace_by t.at (carried f.carry) (entries t.node)
    → n.count ≤ t.node.count + 1 → t.node.count < 256
    → Rejoined g j l t c b (record { node = n; budget = f.budget }) i o p q
rejoined g j l t c n b f i o p q fin en h few = record {
  node = en ∙ rw fin.carry;
  few = omega arith;
  page = fin.page;
  ran = fin.ran;
}

-- ---- the way
pub change_leaf : (g : Geometry) (j : Job) (l : ℕ) (e : Entry) (b : Budget) (c : Node) (i p : List ℕ)
    → entries c ≡ leaf_of j.change j.key (node_at g i e.addr 1) → c.count ≤ 256 → l ≡ 0 → Changes g j l e b
    (record { node = c; budget = b }) i i p p
unfolding changed edited sides_up
change_leaf g j zero e b c i p ec few z =
    record { node = ec; few = few; page = laid_none g (parts_of g j i 0 e) p; ran = ran_none g b i }
change_leaf g j (suc l) e b c i p ec few z = absurd (omega arith)

sides_agree : (g : Geometry) (j : Job) (f h : ℕ → List Entry) (l : ℕ) → ((m : ℕ) → m ≤ l → f m ≡ h m)
    → sides_up g j f l ≡ sides_up g j h l
unfolding sides_up
sides_agree g j f h zero e = refl
sides_agree g j f h (suc l) e = rw (sides_agree g j f h l (λ m p. e m (omega arith)), e (suc l) (omega arith))

module _ (g : Geometry) (j : Job) (i : List ℕ) (l : ℕ) (e : Entry) where
  -- the entry taken
  x : Entry
  x = chosen j.key (node_at g i e.addr (suc (suc l)))

  top : path_of g j i l x (suc l) ≡ changed g j i l x
  unfolding x path_of changed
  top = path_top (node_at g i) j.key (leaf_of j.change j.key) (name_of g j.change j) l (chosen j.key (node_at g i e.addr (suc (suc l))))

  below : (m : ℕ) → m ≤ suc l → path_of g j i (suc l) e m ≡ path_of g j i l x m
  unfolding x path_of
  below m h = path_below (node_at g i) j.key (leaf_of j.change j.key) (name_of g j.change j) l e m h

  parts_up : (p : List ℕ) → laid_level g (laid g (parts_of g j i l x) l p) (suc l) (part_of g j.change j.key (suc l)
      (changed g j i l x)) ≡ laid g (parts_of g j i (suc l) e) (suc l) p
  unfolding parts_of
  parts_up p =
      rw (← top) (laid_more g (parts_of g j i l x) l p)
      ∙ laid_agree g (parts_of g j i l x) (parts_of g j i (suc l) e) (suc l) p (λ m a h. rw (below m h))

  sides_up_lem : sides_up g j (path_of g j i l x) l ++ stores_of g j.change j (suc l) (changed g j i l x) ≡ sides_up g j
      (path_of g j i (suc l) e) (suc l)
  unfolding sides_up
  sides_up_lem = rw (← top) (sides_agree g j (path_of g j i l x) (path_of g j i (suc l) e) (suc l) (λ m h. sym (below m h)))

  took : (t : Taken) → Takes (node_at g i e.addr (suc (suc l))) j.key t → t.entry ≡ x
  unfolding x
  took t tk = tk.entry

  spliced : (t : Taken) → Takes (node_at g i e.addr (suc (suc l))) j.key t
      → replace_by t.at (name_of g j.change j (suc l) x (changed g j i l x)) (entries t.node) ≡ changed g j i
      (suc l) e
  unfolding x changed edited
  spliced t tk =
      rw (tk.node, tk.at) (sym (splice_is (λ y. name_of g j.change j (suc l) y
      (edited (node_at g i) j.key (leaf_of j.change j.key) (name_of g j.change j) l y)) j.key (node_at g i e.addr (suc (suc l)))))

  change_suc : (b : Budget) (r u : Changed) (t : Taken) (h o p d q : List ℕ)
      → Takes (node_at g i e.addr (suc (suc l))) j.key t → Changes g j l t.entry b u i h p d
      → Rejoined g j (suc l) t (entries u.node) u.budget r h o d q → Changes g j (suc l) e b r i o p q
  change_suc b r u t h o p d q tk ch rj =
      let ex : t.entry ≡ x = took t tk in
      let w : entries u.node ≡ changed g j i l x = rw (← ex) ch.node in
      record {
        node = rj.node ∙ rw (w, ex) (spliced t tk);
        few = rj.few;
        page = rj.page ∙ rw (w, ch.page, ex) (parts_up p);
        ran = rw (← sides_up_lem) (ran_then g _ _ _ _ _ _ _ _ (rw ex at ch.ran) (rw w at rj.ran));
      }

pub change_on : (g : Geometry) (j : Job) (l : ℕ) (e : Entry) (b : Budget) (r u : Changed) (t : Taken) (i h o p d
    q : List ℕ)
    → Rejoined g j l t (entries u.node) u.budget r h o d q → Takes (node_at g i e.addr (l + 1)) j.key t
    → Changes g j (l - 1) t.entry b u i h p d
    → (l ≡ 0 → ⊥) → Changes g j l e b r i o p q
change_on g j zero e b r u t i h o p d q rj tk ch z = absurd (z refl)
change_on g j (suc l) e b r u t i h o p d q rj tk ch z =
    change_suc g j i l e b r u t h o p d q (rw add-one at tk) (rw sub-one at ch) rj

-- ---- a change that stores nothing on the way
no_stores : (g : Geometry) (j : Job) (f : ℕ → List Entry) (l : ℕ)
    → ((m : ℕ) (c : List Entry) → stores_of g j.change j m c ≡ []) → sides_up g j f l ≡ []
unfolding sides_up
no_stores g j f zero e = refl
no_stores g j f (suc l) e = λ z. no_stores g j f l e z ++ e (suc l) (f (suc l)) z

take_none : (n : ℕ) → take {A = Store} n [] ≡ []
take_none zero = refl
take_none (suc n) = refl

same_image : (g : Geometry) (ss : List Store) (b r : Budget) (i o : List ℕ) → Ran g ss b r i o → ss ≡ [] → o ≡ i
unfolding apply_all careful
same_image g ss b r i o run e = run.image ∙ rw (e, take_none b.left)

-- it leaves the image as it is
pub still : (g : Geometry) (j : Job) (l : ℕ) (e : Entry) (b : Budget) (u : Changed) (i h p q : List ℕ)
    → Changes g j l e b u i h p q
    → ((m : ℕ) (c : List Entry) → stores_of g j.change j m c ≡ []) → (h ≡ i) × Ran g [] b u.budget i i
still g j l e b u i h p q ch none =
    let z : sides_up g j (path_of g j i l e) l ≡ [] = no_stores g j (path_of g j i l e) l none in
    let si : h ≡ i = same_image g (sides_up g j (path_of g j i l e) l) b u.budget i h ch.ran z in
    (si, rw (z, si) at ch.ran)

pub ruleset edit_laws = (leaf_put, leaf_remove, leaf_same, rejoined, change_leaf, change_on)
