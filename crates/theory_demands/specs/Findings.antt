-- What a bad finding says of the tests that it was made of. Assumes nothing.
use Rattle.std.specs.Prelude.{◌≡◌, refl, List, [], ◌∷◌, ◌++◌, ◌⊎◌, Bool, true, false, ltb, length, get_or, Err}
use Rattle.std.proofs.Common.{ap, sym, subst, ◌∙◌, inl, inr, arith, ltb-true, ltb-false, ne_eqb}
use Rattle.std.proofs.lemmas.Bool.{false≢true}
use Prim.Native.Nat.{ℕ, zero, suc, ◌+◌, ◌<◌, ◌≤◌}
use Rattle.geometry.specs.declared.Geometry.{Geometry}
use Rattle.geometry.specs.declared.Entry.{Entry}
use Rattle.geometry.specs.Findings.{Finding, Good, Bad, Verdict, Sound, broken_at}
use Rattle.geometry.specs.Tests.{pick, ◌&◌, and_true, and_left, and_right}
use Rattle.model.specs.Count.{least, any}
use Rattle.model.specs.Tree.{Place, following}
use Rattle.model.specs.Image.{Nodes}
use Rattle.model.specs.Rules.{lowest, unless, first, names, rising, own, judge_entries, judge_node, lowest_page, or_else, is_sound}
use Rattle.theory_counts.specs.Least.{Least, least_is}
use Rattle.theory_counts.specs.Lowest.{bad_good}
use Rattle.theory_lists.specs.All.{All, Mem, all_right}
use Rattle.theory_nodes.specs.Entries.{next_append}
use Rattle.theory_counts.specs.Cases.{by_le}

page_in : Finding → ℕ
page_in Good = 0
page_in (Bad p) = p

bad_same : (p q : ℕ) → Bad p ≡ Bad q → p ≡ q
unfolding page_in
bad_same p q e = ap page_in e

-- ---- the ways to join findings
pub bad_unless : (t : Bool) (p q : ℕ) (v : Finding) → unless t p v ≡ Bad q → ((t ≡ false) × (p ≡ q)) ⊎
    ((t ≡ true) × (v ≡ Bad q))
unfolding unless
bad_unless true p q v e = inr (refl, e)
bad_unless false p q v e = inl (refl, bad_same p q e)

pub zero_page : (t : Bool) (p : ℕ) → unless t 0 Good ≡ Bad p → p ≡ 0
zero_page t p e = go (bad_unless t 0 p Good e)
  where
    go : ((t ≡ false) × (0 ≡ p)) ⊎ ((t ≡ true) × (Good ≡ Bad p)) → p ≡ 0
    go (inl w) = sym w.1
    go (inr w) = absurd (bad_good p (sym w.1))

-- a bad finding of the first, or of the rest as it is told further
pub or_led : {own : Type 0} {other : Type 0} {bad : Type 0} {then : Type 0} → own ⊎ (other × bad) → (bad → then) → own ⊎
    (other × then)
or_led (inl w) f = inl w
or_led (inr w) f = inr (w.0, f w.1)

bad_first : (v w : Finding) (q : ℕ) → first v w ≡ Bad q → (v ≡ Bad q) ⊎ ((v ≡ Good) × (w ≡ Bad q))
unfolding first
bad_first Good w q e = inr (refl, e)
bad_first (Bad p) w q e = inl e

-- the lowest page that a test finds bad
pub bad_lowest : (t : ℕ) (f : ℕ → Bool) (p : ℕ) → lowest t f ≡ Bad p → (p < t) × Least f t p
unfolding lowest
bad_lowest t f p e = go (any t f) refl e
  where
    go : (b : Bool) → any t f ≡ b → pick b (Bad (least t f)) Good ≡ Bad p → (p < t) × Least f t p
    go true h i = subst (λ x. (x < t) × Least f t x) (bad_same (least t f) p i) (ltb-true (least t f) t h, least_is f t)
    go false h i = absurd (bad_good p (sym i))

-- ---- the first of a list of rules, counted from k on, that is broken
abbrev pub first_broken : ℕ → List Finding → Verdict
first_broken k [] = Sound
first_broken k (f ∷ fs) = or_else k f (first_broken (suc k) fs)

-- those before it hold
pub record Broke (k : ℕ) (fs : List Finding) (rule page : ℕ) : Type 0 where
  pub place : ℕ
  pub rule_is : rule ≡ k + place
  pub inside : place < length fs
  pub hold : (j : ℕ) → j < place → get_or fs j Good ≡ Good
  pub broken : get_or fs place Good ≡ Bad page

rule_of : Verdict → ℕ
rule_of Sound = 0
rule_of (Err b) = b.rule

page_of : Verdict → ℕ
page_of Sound = 0
page_of (Err b) = b.page

pub broke : (k : ℕ) (fs : List Finding) (rule page : ℕ) → first_broken k fs ≡ broken_at rule page → Broke k fs rule page
unfolding or_else rule_of page_of
broke k [] rule page e = absurd (false≢true (sym (ap is_sound e)))
broke k (Bad p ∷ fs) rule page e = record {
  place = 0;
  rule_is = omega (arith, ap rule_of e);
  inside = omega arith;
  hold = λ j h. absurd (omega arith);
  broken = ap Bad (ap page_of e);
}
broke k (Good ∷ fs) rule page e =
    let w = broke (suc k) fs rule page e in
    record {
      place = suc w.place;
      rule_is = omega (arith, w.rule_is);
      inside = omega (arith, w.inside);
      hold = λ j h. earlier w j h;
      broken = w.broken;
    }
  where
    earlier : (w : Broke (suc k) fs rule page) (j : ℕ) → j < suc w.place → get_or (Good ∷ fs) j Good ≡ Good
    earlier w zero h = refl
    earlier w (suc j) h = w.hold j (omega (arith, h))

-- ---- entries: those to the left of the bad one are good, with all below them
pub record Led (sub : ℕ → ℕ → ℕ → Finding) (es : List Entry) (hi p : ℕ) : Type 0 where
  pub left : List Entry
  pub entry : Entry
  pub right : List Entry
  pub whole : es ≡ left ++ (entry ∷ right)
  pub left_good : judge_entries sub left entry.key ≡ Good
  pub bad : sub entry.addr entry.key (following right hi) ≡ Bad p

pub led : (sub : ℕ → ℕ → ℕ → Finding) (es : List Entry) (hi p : ℕ) → judge_entries sub es hi ≡ Bad p → Led sub es hi p
unfolding judge_entries first
led sub [] hi p e = absurd (bad_good p (sym e))
led sub (e ∷ es) hi p h = go (bad_first _ _ p h) (led sub es hi p)
  where
    here : sub e.addr e.key (following es hi) ≡ Bad p → Led sub (e ∷ es) hi p
    here b = record { left = []; entry = e; right = es; whole = refl; left_good = refl; bad = b }

    further : sub e.addr e.key (following es hi) ≡ Good → Led sub es hi p → Led sub (e ∷ es) hi p
    further y w = record {
      left = e ∷ w.left;
      entry = w.entry;
      right = w.right;
      whole = ap (λ xs. e ∷ xs) w.whole;
      left_good = rw (ap (sub e.addr e.key) (sym (ap (λ xs. following xs hi) w.whole ∙ next_append w.left (w.entry ∷ w.right) hi)) ∙ y) w.left_good;
      bad = w.bad;
    }

    go : (sub e.addr e.key (following es hi) ≡ Bad p) ⊎ ((sub e.addr e.key (following es hi) ≡ Good) ×
        (judge_entries sub es hi ≡ Bad p))
        → (judge_entries sub es hi ≡ Bad p → Led sub es hi p) → Led sub (e ∷ es) hi p
    go (inl b) f = here b
    go (inr w) f = further w.0 (f w.1)

-- ---- places: m is the lowest page below t of those that pass, or t
pub record LowestPlace (f : Place → Bool) (xs : List Place) (t m : ℕ) : Type 0 where
  pub most : m ≤ t
  pub none_lower : All (λ y. f y ≡ true → m ≤ y.page) xs
  pub there : m < t → (x : Place) × (Mem x xs × (f x ≡ true) × (x.page ≡ m))

pub lowest_place : (f : Place → Bool) (xs : List Place) (t : ℕ) → LowestPlace f xs t (lowest_page f xs t)
unfolding lowest_page
lowest_place f [] t = record { most = omega arith; none_lower = tt; there = λ h. absurd (omega arith) }
lowest_place f (x ∷ xs) t = go (f x & ltb x.page t) refl (lowest_place f xs)
  where
    further : (m : ℕ) → ((y : Place) × (Mem y xs × (f y ≡ true) × (y.page ≡ m))) → (y : Place) ×
        (Mem y (x ∷ xs) × (f y ≡ true) × (y.page ≡ m))
    further m w = (w.0, (inr w.1.0, w.1.1, w.1.2))

    go : (b : Bool) → (f x & ltb x.page t) ≡ b → ((u : ℕ) → LowestPlace f xs u (lowest_page f xs u))
        → LowestPlace f (x ∷ xs) t (lowest_page f xs (pick b x.page t))
    go true e i =
        let w = i x.page in
        let low = ltb-true x.page t (and_right _ _ e) in
        record {
          most = omega (arith, w.most, low);
          none_lower = ((λ h. w.most), w.none_lower);
          there = λ h. by_le x.page (lowest_page f xs x.page)
              (λ q. (x, (inl refl, and_left _ _ e, omega (arith, q, w.most)))) (λ q. further _ (w.there q));
        }
    go false e i =
        let w = i t in
        record {
          most = w.most;
          none_lower = ((λ h. omega (arith, w.most, ltb-false x.page t (sym (and_true _) ∙ ap (λ b. b & ltb x.page t) (sym h) ∙ e))), w.none_lower);
          there = λ h. further _ (w.there h);
        }

-- ---- a node whose own test passes names programmed pages below t, where it is no leaf
pub rising_names : (ok : ℕ → Bool) (es : List Entry) (lo hi : ℕ) → rising ok es lo hi ≡ true
    → All (λ e. ok e.addr ≡ true) es
unfolding rising
rising_names ok [] lo hi h = tt
rising_names ok (e ∷ es) lo hi h = (and_right _ _ (and_left _ _ h), rising_names ok es (e.key + 1) hi (and_right _ _ h))

names_below : (er : ℕ → Bool) (t l a : ℕ) → names er t (suc (suc l)) a ≡ true → a < t
unfolding names
names_below er t l a h = ltb-true a t (and_left _ _ (rw (ne_eqb (suc (suc l)) 1 (λ z. omega (arith, z))) at h))

module _ (g : Geometry) (er : ℕ → Bool) (r : Nodes) (t : ℕ) where
  -- so a page that is named of the nodes below a page below t is below t
  pub entries_below : (l : ℕ) (es : List Entry) (hi p : ℕ) → All (λ e. names er t (suc l) e.addr ≡ true) es
      → ((q lo y : ℕ) → q < t → judge_node g er r t l q lo y ≡ Bad p → p < t) → judge_entries (judge_node g er r t l) es hi
      ≡ Bad p → p < t
  unfolding judge_node
  entries_below zero es hi p a f e = absurd (bad_good p (sym (led (judge_node g er r t 0) es hi p e).bad))
  entries_below (suc l) es hi p a f e =
      let w = led (judge_node g er r t (suc l)) es hi p e in
      let fit = (all_right (λ e. names er t (suc (suc l)) e.addr ≡ true) w.left (w.entry ∷ w.right)
      (subst (All (λ e. names er t (suc (suc l)) e.addr ≡ true)) w.whole a)).0 in
      f w.entry.addr w.entry.key (following w.right hi) (names_below er t l w.entry.addr fit) w.bad

  pub node_below : (l q lo hi p : ℕ) → q < t → judge_node g er r t l q lo hi ≡ Bad p → p < t
  unfolding judge_node own
  node_below zero q lo hi p h e = absurd (bad_good p (sym e))
  node_below (suc l) q lo hi p h e = go (bad_unless _ _ p _ e) (λ a b c. node_below l a b c p)
    where
      go : ((own g er r t (suc l) q lo hi ≡ false) × (q ≡ p)) ⊎ ((own g er r t (suc l) q lo hi ≡ true) ×
          (judge_entries (judge_node g er r t l) (r q (suc l)) hi ≡ Bad p))
          → ((a b c : ℕ) → a < t → judge_node g er r t l a b c ≡ Bad p → p < t) → p < t
      go (inl w) f = omega (arith, h, w.1)
      go (inr w) f = entries_below l (r q (suc l)) hi p (rising_names (names er t (suc l)) (r q (suc l)) lo hi (and_right _ _ w.0)) f w.1
