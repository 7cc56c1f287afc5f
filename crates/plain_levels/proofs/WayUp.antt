-- Laws of an update's way up in the plain tree, in the form in which the code has the premises. Assumes nothing.
use Rattle.std.specs.Prelude.{ℕ, zero, suc, ◌+◌, ◌-◌, ◌*◌, ◌<◌, ◌≤◌, min, Bool, true, false, ◌≡◌, refl, List, [], ◌∷◌, ◌++◌, leb, take, drop, length, get_or}
use Rattle.std.proofs.Math.Path.{sym}
use Rattle.std.proofs.Common.{◌∙◌, arith, add-one, sub-one, le-leb, eq-eqb, ne_eqb}
use Rattle.std.proofs.Math.ListN.{get_or-eq_default}
use Rattle.std.proofs.lemmas.Bool.{lt-leb}
use Rattle.geometry.specs.declared.Geometry.{Geometry}
use Rattle.geometry.specs.declared.Entry.{Entry}
use Rattle.geometry.specs.Geometry.{half, page_bytes}
use Rattle.geometry.specs.Bounds.{four_bytes}
use Rattle.model.specs.Bytes.{erased, node_at}
use Rattle.model.specs.Page.{built, only}
use Rattle.model.specs.Tree.{following, chosen}
use Rattle.model.specs.Stores.{program, apply_all}
use Rattle.model.specs.Edit.{kept, put_in, remove_in, edited, collapse}
use Rattle.model.specs.Plain.{none_left}
use Rattle.tree_node.specs.declared.Node.{Node}
use Rattle.tree_node.specs.declared.Carry.{Carry}
use Rattle.tree_node.specs.declared.Carry.TheVariants.{Nothing, One, Two}
use Rattle.tree_node.specs.Node.{entries, carried, replace_by}
use Rattle.chip_store.specs.declared.Budget.{Budget}
use Rattle.chip_store.specs.Run.{Ran}
use Rattle.chip_store.specs.Runs.{ran_none, ran_then}
use Rattle.tree_load.specs.declared.Taken.{Taken}
use Rattle.tree_load.specs.Load.{Takes}
use Rattle.tree_load.specs.Places.{splice_is}
use Rattle.tree_load.specs.declared.Top.{Top}
use Rattle.tree_load.specs.Collapse.{Collapses}
use Rattle.chip_next.specs.Coming.{Coming}
use Rattle.open_record.specs.declared.Opened.{Opened}
use Rattle.live_beside.specs.Beside.{next_by, page_by}
use Rattle.tree_split.specs.declared.Climbed.{Climbed}
use Rattle.tree_path.specs.declared.Changed.{Changed}
use Rattle.tree_path.specs.Paths.{path_top, path_below}
use Rattle.plain_levels.specs.declared.Change.{Change}
use Rattle.plain_levels.specs.declared.Change.TheVariants.{Put, Remove}
use Rattle.plain_levels.specs.declared.Job.{Job}
use Rattle.plain_levels.specs.declared.Halves.{Halves}
use Rattle.plain_levels.specs.Levels.{left_place, right_place, level_stores, root_stores}
use Rattle.plain_levels.specs.Steps.{page_at, alone_store, leaf_by, name_by, stores_by, pair_of, Halved, half_stores, Parted, Settled}
use Rattle.plain_levels.specs.Steps.{changed, path_of, stores_up, Rejoined, Changes, grown_stores, top_stores, put_stores, stay_stores, remove_stores, Given}

-- ---- places
pub page_in_lem : (j : Job) (i k : ℕ) → k ≡ i → get_or j.pages k 0 ≡ page_at j i
unfolding page_at
page_in_lem j i k e = rw e

pub page_out : (j : Job) (i k : ℕ) → k ≡ i → length j.pages ≡ 256 → 256 ≤ k → 0 ≡ page_at j i
unfolding page_at
page_out j i k e len h = sym (get_or-eq_default j.pages 0 (omega arith))

-- ---- one page
pub alone_is : (g : Geometry) (j : Job) (i h l : ℕ) (es : List Entry) (b r : Budget) (m o bs : List ℕ) (p s : ℕ)
    → Ran g (program p (take (page_bytes g) bs) ∷ []) b r m o
    → take (page_bytes g) bs ≡ built g s h (only l es) → s ≡ j.seq + suc i → p ≡ page_at j i
    → Ran g (alone_store g j i h l es ∷ []) b r m o
unfolding alone_store
alone_is g j i h l es b r m o bs p s run eb es' ep = rw (← es', ← eb, ← ep) run

-- ---- halves
pub pair_is_lem : (j : Job) (l z y x w p q : ℕ) → p ≡ page_at j x → x ≡ left_place j.levels l → q ≡ page_at j w
    → w ≡ right_place j.levels l
    → carried (Two (record { key = z; addr = p }) (record { key = y; addr = q })) ≡ pair_of j l z y
unfolding carried pair_of
pair_is_lem j l z y x w p q ep ex eq ew = rw (ep, ex, eq, ew)

pub halved : (g : Geometry) (j : Job) (l z : ℕ) (c a b : Node) (h y : ℕ) (v : Carry) → carried v ≡ pair_of j l z y
    → entries a ≡ take h (entries c)
    → entries b ≡ drop h (entries c)
    → h ≡ half g l → y ≡ following (entries b) 0 → a.count ≤ c.count → b.count ≤ c.count → c.count ≤ 256
    → Halved g j l z (entries c) (record { left = a; right = b; carry = v })
halved g j l z c a b h y v ev ea eb eh ey ca cb few = record {
  left = ea ∙ rw eh;
  right = eb ∙ rw eh;
  carry = ev ∙ rw (ey, eb, eh);
  few = omega arith;
  some = omega arith;
}

pub parted : (g : Geometry) (j : Job) (l z : ℕ) (c : List Entry) (s : Halves) (b d r : Budget) (i m o : List ℕ)
    (x w : ℕ) → Halved g j l z c s
    → Ran g (alone_store g j x 0 l (entries s.left) ∷ []) b d i m
    → Ran g (alone_store g j w 0 l (entries s.right) ∷ []) d r m o
    → x ≡ left_place j.levels l → w ≡ right_place j.levels l → Parted g j l z c b
    (record { carry = s.carry; budget = r }) i o
unfolding half_stores
parted g j l z c s b d r i m o x w hv first second ex ew = record {
  carry = hv.carry;
  ran = rw (← ex, ← ew, ← hv.left, ← hv.right) (ran_then g (_ ∷ []) (_ ∷ []) b d r i m o first second);
}

-- ---- a node below the root, on insert
pub put_halves : (g : Geometry) (j : Job) (a l : ℕ) (e : Entry) (c : List Entry)
    (b : Budget) (r : Climbed) (i o : List ℕ) (low n h : ℕ)
    → Parted g j l low c b r i o
    → low ≡ min e.key j.key → n ≡ length c → h ≡ half g l → 2 * h < n → Settled g j (Put a) l e c b r i o
unfolding name_by stores_by level_stores half_stores alone_store pair_of
put_halves g j a l e c b r i o low n h pt el en eh q =
    let t : leb (length c) (2 * half g l) ≡ false = lt-leb (length c) (2 * half g l) (rw (← en, ← eh) q) in
    record {
      carry = rw (t, ← el) pt.carry;
      ran = rw t pt.ran;
    }

pub put_whole : (g : Geometry) (j : Job) (a l : ℕ) (e : Entry) (c : List Entry) (b d : Budget) (i o : List ℕ)
    (low n h x p : ℕ)
    → Ran g (alone_store g j x 0 l c ∷ []) b d i o
    → p ≡ page_at j x → x ≡ left_place j.levels l → low ≡ min e.key j.key → n ≡ length c → h ≡ half g l
    → n ≤ 2 * h
    → Settled g j (Put a) l e c b (record { carry = One (record { key = low; addr = p }); budget = d }) i o
unfolding name_by stores_by level_stores alone_store carried
put_whole g j a l e c b d i o low n h x p run ep ex el en eh q =
    let t : leb (length c) (2 * half g l) ≡ true = le-leb (length c) (2 * half g l) (rw (← en, ← eh) q) in
    record {
      carry = rw (t, el, ep, ex);
      ran = rw (t, ← ex) run;
    }

-- ---- and on delete
none_left_lem : (c : List Entry) → length c ≡ 0 → c ≡ []
none_left_lem [] h = refl
none_left_lem (x ∷ c) h = absurd (omega arith)

some_left : (c : List Entry) → (length c ≡ 0 → ⊥) → (none_left c ≡ false) ×
    ((n l : ℕ) (e : Entry) → kept n l e c ≡ record { key = e.key; addr = n } ∷ [])
some_left [] h = absurd (h refl)
some_left (x ∷ c) h = (refl, λ n l e. refl)

pub remove_none : (g : Geometry) (j : Job) (l : ℕ) (e : Entry) (c : List Entry) (b : Budget) (i : List ℕ) (n : ℕ)
    → n ≡ length c → n ≡ 0
    → Settled g j Remove l e c b (record { carry = Nothing; budget = b }) i i
unfolding name_by stores_by carried
remove_none g j l e c b i n en z =
    let q : c ≡ [] = none_left_lem c (sym en ∙ z) in
    record { carry = rw q; ran = rw q (ran_none g b i) }

pub remove_some : (g : Geometry) (j : Job) (l : ℕ) (e : Entry) (c : List Entry) (b d : Budget) (i o : List ℕ)
    (n x p : ℕ)
    → Ran g (alone_store g j x 0 l c ∷ []) b d i o
    → p ≡ page_at j x → x ≡ l - 1 - j.levels → n ≡ length c → (n ≡ 0 → ⊥)
    → Settled g j Remove l e c b (record { carry = One (record { key = e.key; addr = p }); budget = d }) i o
unfolding name_by stores_by carried
remove_some g j l e c b d i o n x p run ep ex en z =
    let w = some_left c (λ q. z (en ∙ q)) in
    record { carry = rw (w.1, ep, ex); ran = rw (w.0, ← ex) run }

pub settle_put : (g : Geometry) (j : Job) (w : Change) (a l : ℕ) (e : Entry) (c : List Entry)
    (b : Budget) (r : Climbed) (i o : List ℕ)
    → Settled g j (Put a) l e c b r i o → w ≡ Put a → Settled g j w l e c b r i o
settle_put g j w a l e c b r i o s q = rw q s

pub settle_remove : (g : Geometry) (j : Job) (w : Change) (l : ℕ) (e : Entry) (c : List Entry)
    (b : Budget) (r : Climbed) (i o : List ℕ)
    → Settled g j Remove l e c b r i o → w ≡ Remove → Settled g j w l e c b r i o
settle_remove g j w l e c b r i o s q = rw q s

-- ---- the leaf
pub leaf_put : (w : Change) (k a : ℕ) (m : Node) (es : List Entry) → entries m ≡ put_in k a es → w ≡ Put a
    → entries m ≡ leaf_by w k es
unfolding leaf_by
leaf_put w k a m es em q = em ∙ rw q

pub leaf_remove : (w : Change) (k : ℕ) (m : Node) (es : List Entry) → entries m ≡ remove_in k es → w ≡ Remove
    → entries m ≡ leaf_by w k es
unfolding leaf_by
leaf_remove w k m es em q = em ∙ rw q

-- ---- one level up
pub rejoined : (g : Geometry) (j : Job) (l : ℕ) (t : Taken) (c : List Entry)
    (n : Node) (b : Budget) (f : Climbed) (i o : List ℕ)
    → Settled g j j.change l t.entry c b f i o → entries n ≡ replace_by t.at (carried f.carry)
    (entries t.node)
    → n.count ≤ t.node.count + 1 → t.node.count < 256
    → Rejoined g j l t c b (record { node = n; budget = f.budget }) i o
rejoined g j l t c n b f i o st en h few = record {
  node = en ∙ rw st.carry;
  few = omega arith;
  ran = st.ran;
}

pub change_leaf : (g : Geometry) (j : Job) (l : ℕ) (e : Entry) (b : Budget) (c : Node) (i : List ℕ)
    → entries c ≡ leaf_by j.change j.key (node_at g i e.addr 1) → c.count ≤ 256 → l ≡ 0 → Changes g j l e b
    (record { node = c; budget = b }) i i
unfolding changed edited stores_up
change_leaf g j zero e b c i ec few z = record { node = ec; few = few; ran = ran_none g b i }
change_leaf g j (suc l) e b c i ec few z = absurd (omega arith)

up_agree : (g : Geometry) (j : Job) (f h : ℕ → List Entry) (l : ℕ) → ((m : ℕ) → m ≤ l → f m ≡ h m)
    → stores_up g j f l ≡ stores_up g j h l
unfolding stores_up
up_agree g j f h zero e = refl
up_agree g j f h (suc l) e = rw (up_agree g j f h l (λ m p. e m (omega arith)), e (suc l) (omega arith))

module _ (g : Geometry) (j : Job) (i : List ℕ) (l : ℕ) (e : Entry) where
  -- the entry taken
  x : Entry
  x = chosen j.key (node_at g i e.addr (suc (suc l)))

  top : path_of g j i l x (suc l) ≡ changed g j i l x
  unfolding x path_of changed
  top = path_top (node_at g i) j.key (leaf_by j.change j.key) (name_by g j.change j) l (chosen j.key (node_at g i e.addr (suc (suc l))))

  below : (m : ℕ) → m ≤ suc l → path_of g j i (suc l) e m ≡ path_of g j i l x m
  unfolding x path_of
  below m h = path_below (node_at g i) j.key (leaf_by j.change j.key) (name_by g j.change j) l e m h

  stores_up_lem : stores_up g j (path_of g j i l x) l ++ stores_by g j.change j (suc l) (changed g j i l x) ≡ stores_up g j
      (path_of g j i (suc l) e) (suc l)
  unfolding stores_up
  stores_up_lem = rw (← top) (up_agree g j (path_of g j i l x) (path_of g j i (suc l) e) (suc l) (λ m h. sym (below m h)))

  took : (t : Taken) → Takes (node_at g i e.addr (suc (suc l))) j.key t → t.entry ≡ x
  unfolding x
  took t tk = tk.entry

  spliced : (t : Taken) → Takes (node_at g i e.addr (suc (suc l))) j.key t
      → replace_by t.at (name_by g j.change j (suc l) x (changed g j i l x)) (entries t.node) ≡ changed g j i
      (suc l) e
  unfolding x changed edited
  spliced t tk =
      rw (tk.node, tk.at) (sym (splice_is (λ y. name_by g j.change j (suc l) y
      (edited (node_at g i) j.key (leaf_by j.change j.key) (name_by g j.change j) l y)) j.key (node_at g i e.addr (suc (suc l)))))

  change_suc : (b : Budget) (r u : Changed) (t : Taken) (h o : List ℕ) → Takes (node_at g i e.addr (suc (suc l)))
      j.key t
      → Changes g j l t.entry b u i h
      → Rejoined g j (suc l) t (entries u.node) u.budget r h o → Changes g j (suc l) e b r i o
  change_suc b r u t h o tk ch rj =
      let ex : t.entry ≡ x = took t tk in
      let w : entries u.node ≡ changed g j i l x = rw (← ex) ch.node in
      record {
        node = rj.node ∙ rw (w, ex) (spliced t tk);
        few = rj.few;
        ran = rw (← stores_up_lem) (ran_then g _ _ _ _ _ _ _ _ (rw ex at ch.ran) (rw w at rj.ran));
      }

pub change_on : (g : Geometry) (j : Job) (l : ℕ) (e : Entry) (b : Budget) (r u : Changed) (t : Taken) (i h o : List ℕ)
    → Rejoined g j l t (entries u.node) u.budget r h o → Takes (node_at g i e.addr (l + 1)) j.key t
    → Changes g j (l - 1) t.entry b u i h
    → (l ≡ 0 → ⊥) → Changes g j l e b r i o
change_on g j zero e b r u t i h o rj tk ch z = absurd (z refl)
change_on g j (suc l) e b r u t i h o rj tk ch z =
    change_suc g j i l e b r u t h o (rw add-one at tk) (rw sub-one at ch) rj

-- ---- the root of an insert
pub grown : (g : Geometry) (j : Job) (l : ℕ) (c : List Entry) (b r : Budget) (u : Climbed) (n : Node) (i m o : List ℕ)
    (low x : ℕ)
    → Ran g (alone_store g j x (l + 1) (l + 1) (entries n) ∷ []) u.budget r m o → Parted g j l low c b u i m
    → entries n ≡ carried u.carry → low ≡ following c 0
    → x ≡ left_place j.levels (l + 1) → Ran g (grown_stores g j l c) b r i o
unfolding grown_stores
grown g j l c b r u n i m o low x run pt en el ex =
    let s : l + 1 ≡ suc l = add-one l in
    ran_then g _ _ b u.budget r i m o pt.ran (rw (ex, s, en, pt.carry, el) at run)

pub root_grown : (g : Geometry) (j : Job) (l : ℕ) (c : List Entry) (b r : Budget) (i o : List ℕ) (n h : ℕ)
    → Ran g (grown_stores g j l c) b r i o
    → n ≡ length c → h ≡ half g l → 2 * h < n → Ran g (top_stores g j l c) b r i o
unfolding top_stores root_stores grown_stores level_stores half_stores alone_store pair_of
root_grown g j l c b r i o n h run en eh q =
    let t : leb (length c) (2 * half g l) ≡ false = lt-leb (length c) (2 * half g l) (rw (← en, ← eh) q) in
    rw t run

pub root_whole : (g : Geometry) (j : Job) (l : ℕ) (c : List Entry) (b r : Budget) (i o : List ℕ) (n h x : ℕ)
    → Ran g (alone_store g j x l l c ∷ []) b r i o
    → x ≡ left_place j.levels l → n ≡ length c → h ≡ half g l → n ≤ 2 * h → Ran g (top_stores g j l c) b r i o
unfolding top_stores root_stores alone_store
root_whole g j l c b r i o n h x run ex en eh q =
    let t : leb (length c) (2 * half g l) ≡ true = le-leb (length c) (2 * half g l) (rw (← en, ← eh) q) in
    rw (t, ← ex) run

pub inserted : (g : Geometry) (j : Job) (l : ℕ) (e : Entry) (b r : Budget) (u : Changed) (i m o : List ℕ)
    → Ran g (top_stores g j (l + 1) (entries u.node)) u.budget r m o → Changes g j l e b u i m
    → Ran g (put_stores g j l e i) b r i o
unfolding put_stores
inserted g j l e b r u i m o run ch =
    let s : l + 1 ≡ suc l = add-one l in
    ran_then g _ _ b u.budget r i m o ch.ran (rw (s, ch.node) at run)

-- ---- the root of a delete
-- a climb that is allowed no store leaves the image as it is
pub looked : (g : Geometry) (j : Job) (l : ℕ) (e : Entry) (m n : ℕ) (t : Bool) (u : Changed) (i h : List ℕ)
    → Changes g j l e (record { left = 0; programmed = m; erased = n; stopped = t }) u i h → h ≡ i
unfolding apply_all
looked g j l e m n t u i h ch = ch.ran.image

pub stayed : (g : Geometry) (j : Job) (l : ℕ) (e : Entry) (b r : Budget) (u : Changed) (i m o : List ℕ) (x : ℕ)
    → Ran g (alone_store g j x (l + 1) (l + 1) (entries u.node) ∷ []) u.budget r m o → Changes g j l e b u i m
    → x ≡ l + 1 - 1 - j.levels
    → Ran g (stay_stores g j l e i) b r i o
unfolding stay_stores
stayed g j l e b r u i m o x run ch ex =
    let s : l + 1 ≡ suc l = add-one l in
    let y : l + 1 - 1 - j.levels ≡ l - j.levels = omega arith in
    ran_then g _ _ b u.budget r i m o ch.ran (rw (ex, y, s, ch.node) at run)

pub remove_stay : (g : Geometry) (j : Job) (l : ℕ) (e : Entry) (b r : Budget) (c : Node) (t : Top) (i h o : List ℕ)
    → Ran g (stay_stores g j l e h) b r h o
    → Collapses (node_at g h) l (entries c) t → entries c ≡ changed g j i l e → h ≡ i → t.level ≡ l
    → Ran g (remove_stores g j l e i) b r i o
unfolding remove_stores
remove_stay g j l e b r c t i h o run cl ec eh q =
    let w : (collapse (node_at g i) l (changed g j i l e)).level ≡ l = rw (← ec, ← eh) (sym cl.level ∙ q) in
    rw (eq-eqb (collapse (node_at g i) l (changed g j i l e)).level l w) (rw eh at run)

pub remove_fall : (g : Geometry) (j : Job) (l : ℕ) (e : Entry) (b r : Budget) (c : Node) (t : Top) (i h o : List ℕ)
    → Ran g (alone_store g j 0 (t.level + 1) (t.level + 1) (entries t.node) ∷ []) b r h o
    → Collapses (node_at g h) l (entries c) t → entries c ≡ changed g j i l e → h ≡ i → (t.level ≡ l → ⊥)
    → Ran g (remove_stores g j l e i) b r i o
unfolding remove_stores
remove_fall g j l e b r c t i h o run cl ec eh q =
    let s : t.level + 1 ≡ suc t.level = add-one t.level in
    let v : t.level ≡ (collapse (node_at g i) l (changed g j i l e)).level = rw (← ec, ← eh) cl.level in
    let y : entries t.node ≡ (collapse (node_at g i) l (changed g j i l e)).list = rw (← ec, ← eh) cl.list in
    rw (ne_eqb (collapse (node_at g i) l (changed g j i l e)).level l (λ z. q (v ∙ z))) (rw (s, y, v, eh) at run)

-- ---- the job
pub given : (g : Geometry) (n : ℕ) (i : List ℕ) (o : Opened) (v k m : ℕ) (w : Change) (ps : List ℕ) (x z c : ℕ)
    → Coming g.pages n (erased g i) x c ps
    → x ≡ next_by g n o → c ≡ m → z ≡ o.most → z < four_bytes
    → Given (page_by g n i o) o.most v k m w (record { key = k; seq = z; pages = ps; levels = v; change = w })
unfolding page_at
given g n i o v k m w ps x z c cm ex ec ez low = record {
  key = refl;
  change = refl;
  number = ez;
  small = low;
  levels = refl;
  pages = λ y h. cm.at y (rw ec h) ∙ rw ex;
}

pub ruleset level_laws = (page_in_lem, page_out, alone_is, pair_is_lem, halved, parted, put_halves, put_whole, remove_none, remove_some, settle_put, settle_remove, leaf_put, leaf_remove, rejoined, change_leaf, change_on, grown, root_grown, root_whole, inserted, looked, stayed, remove_stay, remove_fall, given)
