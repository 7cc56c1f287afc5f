-- Laws of a step up, in the form in which the code has the premises. Assumes nothing.
use Rattle.std.specs.Prelude.{ℕ, ◌+◌, ◌-◌, ◌*◌, ◌<◌, ◌≤◌, min, Bool, true, false, ◌≡◌, refl, List, [], ◌∷◌, leb, take, drop, length, get_or}
use Rattle.std.proofs.Common.{sym, ◌∙◌, arith, le-leb}
use Rattle.std.proofs.Math.ListN.{get_or-eq_default}
use Rattle.std.proofs.lemmas.Bool.{lt-leb}
use Rattle.geometry.specs.declared.Geometry.{Geometry}
use Rattle.geometry.specs.declared.Entry.{Entry}
use Rattle.geometry.specs.Geometry.{half, page_bytes}
use Rattle.model.specs.Edit.{turn, kept}
use Rattle.model.specs.Page.{built, only}
use Rattle.model.specs.Stores.{program}
use Rattle.model.specs.Tree.{following}
use Rattle.model.specs.Update.{side_store, split_store}
use Rattle.tree_node.specs.declared.Node.{Node}
use Rattle.tree_node.specs.declared.Carry.{Carry}
use Rattle.tree_node.specs.declared.Carry.TheVariants.{Nothing, One, Two}
use Rattle.tree_node.specs.Node.{entries, carried}
use Rattle.chip_page.specs.Page.{laid_level}
use Rattle.chip_store.specs.declared.Budget.{Budget}
use Rattle.chip_store.specs.Run.{Ran}
use Rattle.chip_store.specs.Runs.{ran_none}
use Rattle.tree_split.specs.declared.Change.{Change}
use Rattle.tree_split.specs.declared.Change.TheVariants.{Put, Remove, Rename}
use Rattle.tree_split.specs.declared.Job.{Job}
use Rattle.tree_split.specs.declared.Cut.{Cut}
use Rattle.tree_split.specs.Step.{side_of, name_of, part_of, stores_of, cut_stores, Halved, Stepped, Finished}

pub side_zero : (j : Job) (l k : ℕ) → k ≡ l → k ≡ 0 → get_or j.sides 0 0 ≡ side_of j l
unfolding side_of
side_zero j l k e z = let q : l - 1 ≡ 0 = omega arith in rw q

pub side_in : (j : Job) (l k : ℕ) → k ≡ l → get_or j.sides (k - 1) 0 ≡ side_of j l
unfolding side_of
side_in j l k e = rw e

pub side_out : (j : Job) (l k : ℕ) → k ≡ l → length j.sides ≡ 256 → 256 < k → 0 ≡ side_of j l
unfolding side_of
side_out j l k e len h = sym (get_or-eq_default j.sides 0 (omega arith))

-- ---- halves
module _ (k n o m z : ℕ) (c a b : Node) (y : ℕ) (ea : entries a ≡ take m (entries c))
    (eb : entries b ≡ drop m (entries c)) (ca : a.count ≤ c.count) (cb : b.count ≤ c.count)
    (ey : y ≡ following (entries b) 0) (most : c.count ≤ 256) where
  turns : y ≤ k → turn k m (entries c) ≡ true
  turns q = le-leb (following (drop m (entries c)) 0) k (rw (← eb, ← ey) q)

  stays : k < y → turn k m (entries c) ≡ false
  stays q = lt-leb (following (drop m (entries c)) 0) k (rw (← eb, ← ey) q)

  pub half_right : y ≤ k
      → Halved k n o m z (entries c) (record {
        path = b;
        side = a;
        split = true;
        carry = Two (record { key = z; addr = o }) (record { key = y; addr = n });
      })
  unfolding carried
  half_right q = record {
    path = rw (turns q) eb;
    side = rw (turns q) ea;
    carry = rw (turns q, ← eb, ey);
    both = refl;
    few = omega arith;
    some = omega arith;
  }

  pub half_left : k < y
      → Halved k n o m z (entries c) (record {
        path = a;
        side = b;
        split = true;
        carry = Two (record { key = z; addr = n }) (record { key = y; addr = o });
      })
  unfolding carried
  half_left q = record {
    path = rw (stays q) ea;
    side = rw (stays q) eb;
    carry = rw (stays q, ← eb, ey);
    both = refl;
    few = omega arith;
    some = omega arith;
  }

-- ---- a node that stays whole
whole : (g : Geometry) (j : Job) (w : Change) (l : ℕ) (e : Entry) (c : List Entry) (r : Cut) (p : Node) (y : Carry)
    → r.path ≡ p → r.carry ≡ y → r.split ≡ false → r.side.count ≡ 0 → p.count ≤ 256
    → entries p ≡ part_of g w j.key l c → carried y ≡ name_of g w j l e c → stores_of g w j l c ≡ []
    → Stepped g j w l e c r
unfolding cut_stores
whole g j w l e c r p y ep ey es en few path name stores = record {
  path = rw ep path;
  side = rw (es, stores);
  carry = rw ey name;
  few = rw ep few;
  some = omega arith;
}

pub put_whole : (g : Geometry) (j : Job) (a l : ℕ) (e : Entry) (c : Node) (r : Cut) (low n h : ℕ)
    → (r.path ≡ c) × (r.carry ≡ One (record { key = low; addr = j.page })) × (r.split ≡ false) ×
    (r.side.count ≡ 0)
    → low ≡ min e.key j.key → n ≡ length (entries c) → h ≡ half g l → n ≤ 2 * h → c.count ≤ 256
    → Stepped g j (Put a) l e (entries c) r
unfolding part_of name_of stores_of split_store carried
put_whole g j a l e c r low n h u el en eh q few =
    let t : leb (length (entries c)) (2 * half g l) ≡ true =
    le-leb (length (entries c)) (2 * half g l) (rw (← en, ← eh) q) in
    whole g j (Put a) l e (entries c) r c (One (record { key = low; addr = j.page })) u.0 u.1 u.2 u.3 few (rw t) (rw (t, el)) (rw t)

pub put_cut : (g : Geometry) (j : Job) (a l : ℕ) (e : Entry) (c : Node) (r : Cut) (low n h o : ℕ) → Halved j.key
    j.page o h low (entries c) r
    → low ≡ min e.key j.key → n ≡ length (entries c) → h ≡ half g l → o ≡ side_of j l → 2 * h < n
    → Stepped g j (Put a) l e (entries c) r
unfolding part_of name_of stores_of split_store cut_stores
put_cut g j a l e c r low n h o hv el en eh eo q =
    let t : leb (length (entries c)) (2 * half g l) ≡ false =
    lt-leb (length (entries c)) (2 * half g l) (rw (← en, ← eh) q) in
    record {
      path = rw (t, ← eh) hv.path;
      side = rw (t, hv.both, hv.side, eh);
      carry = rw (t, ← eh, ← el, ← eo) hv.carry;
      few = hv.few;
      some = hv.some;
    }

kept_some : (n l : ℕ) (e : Entry) (c : List Entry) → (length c ≡ 0 → ⊥)
    → kept n l e c ≡ record { key = e.key; addr = n } ∷ []
kept_some n l e [] h = absurd (h refl)
kept_some n l e (x ∷ c) h = refl

kept_none : (n l : ℕ) (e : Entry) (c : List Entry) → length c ≡ 0 → kept n l e c ≡ []
kept_none n l e [] h = refl
kept_none n l e (x ∷ c) h = absurd (omega arith)

pub remove_none : (g : Geometry) (j : Job) (l : ℕ) (e : Entry) (c : Node) (r : Cut) (n : ℕ)
    → (r.path ≡ c) × (r.carry ≡ Nothing) × (r.split ≡ false) × (r.side.count ≡ 0) → n ≡ length (entries c) → n ≡ 0
    → c.count ≤ 256 → Stepped g j Remove l e (entries c) r
unfolding part_of name_of stores_of carried
remove_none g j l e c r n u en z few =
    whole g j Remove l e (entries c) r c Nothing u.0 u.1 u.2 u.3 few refl (sym (kept_none j.page l e (entries c) (sym en ∙ z))) refl

pub remove_some : (g : Geometry) (j : Job) (l : ℕ) (e : Entry) (c : Node) (r : Cut) (n : ℕ)
    → (r.path ≡ c) × (r.carry ≡ One (record { key = e.key; addr = j.page })) × (r.split ≡ false) ×
    (r.side.count ≡ 0) → n ≡ length (entries c) → (n ≡ 0 → ⊥) → c.count ≤ 256
    → Stepped g j Remove l e (entries c) r
unfolding part_of name_of stores_of carried
remove_some g j l e c r n u en z few =
    whole g j Remove l e (entries c) r c (One (record { key = e.key; addr = j.page })) u.0 u.1 u.2
    u.3 few refl (sym (kept_some j.page l e (entries c) (λ q. z (en ∙ q)))) refl

pub rename_below : (g : Geometry) (j : Job) (m l : ℕ) (e : Entry) (c d : Node) (r : Cut)
    → (r.path ≡ d) × (r.carry ≡ One e) × (r.split ≡ false) × (r.side.count ≡ 0) → entries d ≡ [] → d.count ≡ 0
    → l < m → Stepped g j (Rename m) l e (entries c) r
unfolding part_of name_of stores_of carried
rename_below g j m l e c d r u ed cd h =
    let t : leb m l ≡ false = lt-leb _ _ h in
    whole g j (Rename m) l e (entries c) r d (One e) u.0 u.1 u.2 u.3 (omega arith) (rw t ed) (rw t) refl

pub rename_above : (g : Geometry) (j : Job) (m l : ℕ) (e : Entry) (c : Node) (r : Cut)
    → (r.path ≡ c) × (r.carry ≡ One (record { key = e.key; addr = j.page })) × (r.split ≡ false) ×
    (r.side.count ≡ 0) → m ≤ l → c.count ≤ 256
    → Stepped g j (Rename m) l e (entries c) r
unfolding part_of name_of stores_of carried
rename_above g j m l e c r u h few =
    let t : leb m l ≡ true = le-leb _ _ h in
    whole g j (Rename m) l e (entries c) r c (One (record { key = e.key; addr = j.page })) u.0 u.1 u.2 u.3 few (rw t) (rw t) refl

pub step_put : (g : Geometry) (j : Job) (w : Change) (a l : ℕ) (e : Entry) (c : List Entry) (r : Cut)
    → Stepped g j (Put a) l e c r → w ≡ Put a → Stepped g j w l e c r
step_put g j w a l e c r s q = rw q s

pub step_remove : (g : Geometry) (j : Job) (w : Change) (l : ℕ) (e : Entry) (c : List Entry) (r : Cut)
    → Stepped g j Remove l e c r → w ≡ Remove → Stepped g j w l e c r
step_remove g j w l e c r s q = rw q s

pub step_rename : (g : Geometry) (j : Job) (w : Change) (m l : ℕ) (e : Entry) (c : List Entry) (r : Cut)
    → Stepped g j (Rename m) l e c r → w ≡ Rename m → Stepped g j w l e c r
step_rename g j w m l e c r s q = rw q s

-- ---- the store of the other half
pub side_none : (g : Geometry) (j : Job) (l : ℕ) (t : Bool) (es : List Entry) (b : Budget) (i : List ℕ) → t ≡ false
    → Ran g (cut_stores g j l t es) b b i i
unfolding cut_stores
side_none g j l t es b i e = rw e (ran_none g b i)

pub side_some : (g : Geometry) (j : Job) (l : ℕ) (t : Bool) (es : List Entry) (b r : Budget) (i o bs : List ℕ) (p s : ℕ)
    → Ran g (program p (take (page_bytes g) bs) ∷ []) b r i o
    → take (page_bytes g) bs ≡ built g s 0 (only l es) → s ≡ j.seq + l → p ≡ side_of j l → t ≡ true
    → Ran g (cut_stores g j l t es) b r i o
unfolding cut_stores side_store
side_some g j l t es b r i o bs p s run eb es' ep e = rw (e, ← es', ← eb, ← ep) run

pub finished : (g : Geometry) (j : Job) (l : ℕ) (e : Entry) (es : List Entry)
    (s : Cut) (b d : Budget) (i o p q : List ℕ) → Stepped g j j.change l e es s
    → q ≡ laid_level g p l (entries s.path) → Ran g (cut_stores g j l s.split (entries s.side)) b d i o
    → Finished g j l e es b (record { carry = s.carry; budget = d }) i o p q
finished g j l e es s b d i o p q st ep run = record {
  carry = st.carry;
  page = ep ∙ rw st.path;
  ran = rw st.side at run;
}

pub ruleset step_laws = (side_zero, side_in, side_out, half_right, half_left, put_whole, put_cut, remove_none, remove_some, rename_below, rename_above, step_put, step_remove, step_rename, side_none, side_some, finished)
