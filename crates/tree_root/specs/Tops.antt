-- Laws of the top of an update, in the form in which the code has the premises. Assumes nothing.
use Rattle.std.specs.Prelude.{ℕ, suc, ◌+◌, ◌-◌, ◌*◌, ◌≤◌, Bool, true, false, not, ◌≡◌, refl, List, [], ◌∷◌, eqb, take, length, set}
use Rattle.std.proofs.Common.{sym, ◌∙◌, arith, add-one, eq-eqb, ne_eqb}
use Rattle.std.proofs.lemmas.Bool.{not-true, not-false}
use Rattle.geometry.specs.declared.Geometry.{Geometry}
use Rattle.geometry.specs.declared.Entry.{Entry}
use Rattle.geometry.specs.Geometry.{half, page_bytes}
use Rattle.geometry.specs.Tests.{pick}
use Rattle.model.specs.Page.{sealed}
use Rattle.model.specs.Stores.{program}
use Rattle.model.specs.Tree.{following}
use Rattle.model.specs.Update.{fills, crown_part, crown_store, crown_height}
use Rattle.theory_lists.specs.Places.{length_mapped}
use Rattle.tree_node.specs.declared.Node.{Node}
use Rattle.tree_node.specs.declared.Carry.{Carry}
use Rattle.tree_node.specs.declared.Carry.TheVariants.{Nothing, One, Two}
use Rattle.tree_node.specs.Node.{entries, carried}
use Rattle.chip_page.specs.Page.{laid_level, bare}
use Rattle.chip_store.specs.declared.Budget.{Budget}
use Rattle.chip_store.specs.Run.{Ran}
use Rattle.tree_split.specs.declared.Job.{Job}
use Rattle.tree_split.specs.declared.Cut.{Cut}
use Rattle.tree_split.specs.Step.{side_of, cut_stores, Halved}
use Rattle.tree_root.specs.declared.Crown.{Crown}
use Rattle.tree_root.specs.Crown.{Grows, top_part, Crowns, Crowned, path_store}

-- ---- a carry's node
first_one : (e : List Entry) (a : Entry) → length e ≡ 256 → take 1 (set e 0 a) ≡ a ∷ []
first_one [] a h = absurd (omega arith)
first_one (x ∷ e) a h = refl

first_two : (e : List Entry) (a b : Entry) → length e ≡ 256 → take 2 (set (set e 0 a) 1 b) ≡ a ∷ b ∷ []
first_two [] a b h = absurd (omega arith)
first_two (x ∷ []) a b h = absurd (omega arith)
first_two (x ∷ y ∷ e) a b h = refl

pub one_is : (n : Node) (a : Entry) → n.count ≡ 1 → length n.e ≡ 256
    → entries (record { e = set n.e 0 a; count = n.count }) ≡ a ∷ []
unfolding entries
one_is n a c h = rw c (first_one n.e a h)

pub two_is : (n : Node) (a b : Entry) → n.count ≡ 2 → length n.e ≡ 256
    → entries (record { e = set (set n.e 0 a) 1 b; count = n.count }) ≡ a ∷ b ∷ []
unfolding entries
two_is n a b c h = rw c (first_two n.e a b h)

pub node_none : (n : Node) (c : Carry) → entries n ≡ [] → c ≡ Nothing → entries n ≡ carried c
unfolding carried
node_none n c e q = e ∙ rw q

pub node_one : (n : Node) (c : Carry) (x : Entry) → entries n ≡ x ∷ [] → c ≡ One x → entries n ≡ carried c
unfolding carried
node_one n c x e q = e ∙ rw q

pub node_two : (n : Node) (c : Carry) (x y : Entry) → entries n ≡ x ∷ y ∷ [] → c ≡ Two x y → entries n ≡ carried c
unfolding carried
node_two n c x y e q = e ∙ rw q

-- ---- the root
pub grown : (g : Geometry) (j : Job) (l : ℕ) (c : List Entry) (s : Cut) (n : Node) (h low o : ℕ) → Halved j.key
    j.page o (2 * h) low c s → h ≡ half g l → low ≡ following c 0 → o ≡ side_of j l
    → entries n ≡ carried s.carry → n.count ≤ 2
    → Grows g j l c (record { path = s.path; above = n; side = s.side; grows = true })
grown g j l c s n h low o hv eh el eo en cn = record {
  path = hv.path ∙ rw eh;
  above = en ∙ hv.carry ∙ rw (eh, el, eo);
  side = hv.side ∙ rw eh;
  both = refl;
  few = hv.few;
  some = hv.some;
  pair = omega arith;
}

here : (l : ℕ) → eqb l l ≡ true
here l = eq-eqb l l refl

there : (l : ℕ) → eqb (suc l) l ≡ false
there l = ne_eqb (suc l) l (λ q. let z : suc l ≡ l = q in absurd (omega arith))

pub crown_stay : (g : Geometry) (j : Job) (l : ℕ) (c : Node) (r : Crown) (n : ℕ) (b : Bool)
    → (r.path ≡ c) × (entries r.above ≡ []) × (r.above.count ≡ 0) × (r.side.count ≡ 0) × (r.grows ≡ false)
    → n ≡ length (entries c) → b ≡ fills g l n → not b ≡ true → c.count ≤ 256 → Crowns g j l (entries c) r
unfolding top_part crown_part crown_store cut_stores
crown_stay g j l c r n b u en eb q few =
    let t : fills g l (length (entries c)) ≡ false = rw (← en, ← eb) (not-true b q) in
    record {
      path = rw (t, here l, u.0);
      above = rw (t, there l) u.1;
      side = rw (t, u.4);
      grows = u.4 ∙ sym t;
      few = rw u.0 few;
      some = omega (arith, u.3);
      pair = omega (arith, u.2);
    }

pub crown_grow : (g : Geometry) (j : Job) (l : ℕ) (c : Node) (r : Crown) (n : ℕ) (b : Bool) → Grows g j l (entries c) r
    → n ≡ length (entries c) → b ≡ fills g l n → not b ≡ false → Crowns g j l (entries c) r
unfolding top_part crown_part crown_store cut_stores
crown_grow g j l c r n b gr en eb q =
    let t : fills g l (length (entries c)) ≡ true = rw (← en, ← eb) (not-false b q) in
    record {
      path = rw (t, here l) gr.path;
      above = rw (t, there l, here (suc l)) gr.above;
      side = rw (t, gr.both, gr.side);
      grows = gr.both ∙ sym t;
      few = gr.few;
      some = gr.some;
      pair = gr.pair;
    }

pub height_grow : (l : ℕ) (b : Bool) → b ≡ true → l + 1 ≡ pick b (suc l) l
height_grow l b e = rw e (add-one l)

pub height_stay : (l : ℕ) (b : Bool) → b ≡ false → l ≡ pick b (suc l) l
height_stay l b e = rw e

low_height : (l : ℕ) (b : Bool) → pick b (suc l) l ≤ suc l
low_height l true = omega arith
low_height l false = omega arith

pub lay_is : (g : Geometry) (l : ℕ) (es xs : List Entry) (p d q : List ℕ) → q ≡ laid_level g d (l + 1) xs
    → d ≡ laid_level g p l es → q ≡ laid_level g (laid_level g p l es) (l + 1) xs
lay_is g l es xs p d q eq ed = eq ∙ rw ed

pub crowned : (g : Geometry) (j : Job) (l : ℕ) (c : List Entry) (s : Crown) (b d : Budget) (h : ℕ) (i o p q : List ℕ)
    → Crowns g j l c s
    → q ≡ laid_level g (laid_level g p l (entries s.path)) (l + 1) (entries s.above)
    → Ran g (cut_stores g j l s.grows (entries s.side)) b d i o → h ≡ pick s.grows (suc l) l
    → Crowned g j l c b (record { height = h; budget = d }) i o p q
unfolding crown_height
crowned g j l c s b d h i o p q cr ep run eh = record {
  page = ep ∙ rw (cr.path, cr.above, add-one l);
  height = eh ∙ rw cr.grows;
  low = rw eh (low_height l s.grows);
  ran = rw cr.side at run;
}

pub last_is : (g : Geometry) (at : ℕ) (c q : List ℕ) (b r : Budget) (i o : List ℕ)
    → Ran g (program at (take (page_bytes g) q) ∷ []) b r i o → q ≡ c → Ran g (program at (take (page_bytes g) c) ∷ []) b
    r i o
last_is g at c q b r i o run eq = rw eq at run

pub path_is : (g : Geometry) (at seq l : ℕ) (c : List Entry) (p q : List ℕ) (b r : Budget) (i o : List ℕ)
    → Ran g (program at (take (page_bytes g) (sealed g (bare g (l + 1) (g.top - (l + 1)) q) seq (l + 1))) ∷ []) b r i o
    → q ≡ laid_level g p (l + 1) c
    → Ran g (path_store g at seq l c p ∷ []) b r i o
unfolding path_store
path_is g at seq l c p q b r i o run eq =
    let s : l + 1 ≡ suc l = add-one l in
    rw (eq, s) at run

pub ruleset crown_laws = (length_mapped, one_is, two_is, node_none, node_one, node_two, grown, crown_stay, crown_grow, height_grow, height_stay, lay_is, crowned, last_is, path_is)
