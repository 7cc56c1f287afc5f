-- Laws of the levels of a page. Assumes nothing.
use Rattle.std.specs.Prelude.{ℕ, zero, suc, ◌+◌, ◌-◌, ◌<◌, ◌≤◌, min, Bool, true, false, ◌≡◌, refl, List, [], leb, take, length}
use Rattle.std.proofs.Common.{sym, ◌∙◌, arith, add-one, le-leb, eq-eqb, ne_eqb, leb-true, leb-false}
use Rattle.std.proofs.lemmas.Bool.{lt-leb}
use Rattle.geometry.specs.declared.Geometry.{Geometry}
use Rattle.geometry.specs.declared.Entry.{Entry}
use Rattle.geometry.specs.Geometry.{page_bytes}
use Rattle.geometry.specs.Tests.{pick}
use Rattle.geometry.specs.Bounds.{longest_page}
use Rattle.model.specs.Page.{put_level, put_levels, sealed, built, only}
use Rattle.chip_page.specs.Page.{blanks, laid_level, laid, bare}
use Rattle.chip_page.specs.Building.{length_level, page_cut}

pub level_in : (g : Geometry) (b d : List ℕ) (l t k : ℕ) (es : List Entry) → d ≡ put_level g b l es → t ≡ g.top → k ≡ l
    → k ≤ t → d ≡ laid_level g b l es
unfolding laid_level
level_in g b d l t k es e et ek h = e ∙ rw (le-leb l g.top (omega arith))

pub level_out : (g : Geometry) (b : List ℕ) (l t k : ℕ) (es : List Entry) → t ≡ g.top → k ≡ l → t < k
    → b ≡ laid_level g b l es
unfolding laid_level
level_out g b l t k es et ek h = rw (lt-leb l g.top (omega arith))

-- ---- no node at the levels above
pub bare_start : (g : Geometry) (from : ℕ) (b : List ℕ) → b ≡ bare g from (from - from) b
unfolding bare
bare_start g from b = let q : from - from ≡ 0 = omega arith in rw q

pub bare_more : (g : Geometry) (from k : ℕ) (b m d : List ℕ) → m ≡ bare g from (k - from) b
    → d ≡ put_level g m (k + 1) [] → from ≤ k → d ≡ bare g from (k + 1 - from) b
unfolding bare
bare_more g from k b m d e f h =
    let q : k + 1 - from ≡ suc (k - from) = omega arith in
    let r : suc (from + (k - from)) ≡ k + 1 = omega arith in
    f ∙ rw (q, r, ← e)

pub bare_done : (g : Geometry) (from k : ℕ) (b m : List ℕ) → m ≡ bare g from (k - from) b → k - from ≤ g.top - from
    → g.top ≤ k → m ≡ bare g from (g.top - from) b
bare_done g from k b m e h j = let q : k - from ≡ g.top - from = omega arith in e ∙ rw q

length_bare : (g : Geometry) (from n : ℕ) (b : List ℕ) → length (bare g from n b) ≡ length b
unfolding bare
length_bare g from zero b = refl
length_bare g from (suc n) b = length_level g (bare g from n b) (suc (from + n)) [] ∙ length_bare g from n b

pub bare_same : (g : Geometry) (from n : ℕ) (b d : List ℕ) → d ≡ bare g from n b → length d ≡ length b
bare_same g from n b d e = rw e (length_bare g from n b)

-- ---- one node alone
pub only_start : (g : Geometry) (parts : ℕ → List Entry) (b : List ℕ) → b ≡ put_levels g parts 0 b
unfolding put_levels
only_start g parts b = refl

pub only_here : (g : Geometry) (l k : ℕ) (es : List Entry) (b m d : List ℕ) → m ≡ put_levels g (only l es) k b
    → d ≡ put_level g m (k + 1) es → k + 1 ≡ l
    → d ≡ put_levels g (only l es) (k + 1) b
unfolding put_levels
only_here g l k es b m d e f q = f ∙ rw (e, add-one) (let r : suc k ≡ l = sym (add-one k) ∙ q in
    rw (eq-eqb (suc k) l r))

pub only_there : (g : Geometry) (l k : ℕ) (es : List Entry) (b m d : List ℕ) → m ≡ put_levels g (only l es) k b
    → d ≡ put_level g m (k + 1) [] → (k + 1 ≡ l → ⊥)
    → d ≡ put_levels g (only l es) (k + 1) b
unfolding put_levels
only_there g l k es b m d e f q = f ∙ rw (e, add-one) (rw (ne_eqb (suc k) l (λ r. q (add-one k ∙ r))))

pub only_done : (g : Geometry) (parts : ℕ → List Entry) (k : ℕ) (b m : List ℕ) → m ≡ put_levels g parts k b
    → k ≤ g.top → g.top ≤ k → m ≡ put_levels g parts g.top b
only_done g parts k b m e h j = let q : k ≡ g.top = omega arith in e ∙ rw q

length_levels : (g : Geometry) (parts : ℕ → List Entry) (n : ℕ) (b : List ℕ) → length (put_levels g parts n b) ≡ length b
unfolding put_levels
length_levels g parts zero b = refl
length_levels g parts (suc n) b = length_level g (put_levels g parts n b) (suc n) (parts (suc n))
    ∙ length_levels g parts n b

pub levels_same : (g : Geometry) (parts : ℕ → List Entry) (n : ℕ) (b d : List ℕ) → d ≡ put_levels g parts n b
    → length d ≡ length b
levels_same g parts n b d e = rw e (length_levels g parts n b)

pub close_is : (g : Geometry) (b c d : List ℕ) (from n seq h : ℕ) → d ≡ sealed g c seq h → c ≡ bare g from n b
    → d ≡ sealed g (bare g from n b) seq h
close_is g b c d from n seq h ed ec = ed ∙ rw ec

pub only_is : (g : Geometry) (a b c : List ℕ) (seq h : ℕ) (parts : ℕ → List Entry) → c ≡ sealed g b seq h
    → b ≡ put_levels g parts g.top a → a ≡ blanks longest_page → page_bytes g ≤ longest_page
    → take (page_bytes g) c ≡ built g seq h parts
unfolding blanks
only_is g a b c seq h parts ec eb ea le = rw (ec, eb, ea) (page_cut g longest_page seq h parts le)

-- ---- levels laid from below
pub laid_none : (g : Geometry) (parts : ℕ → List Entry) (b : List ℕ) → b ≡ laid g parts 0 b
unfolding laid put_levels
laid_none g parts b = let q : min 0 g.top ≡ 0 = omega arith in rw q

pub laid_more : (g : Geometry) (parts : ℕ → List Entry) (l : ℕ) (b : List ℕ) → laid_level g (laid g parts l b) (suc l)
    (parts (suc l)) ≡ laid g parts (suc l) b
unfolding laid laid_level put_levels
laid_more g parts l b = go (leb (suc l) g.top) refl
  where
    go : (t : Bool) → leb (suc l) g.top ≡ t
        → pick t (put_level g (put_levels g parts (min l g.top) b) (suc l) (parts (suc l)))
        (put_levels g parts (min l g.top) b) ≡ put_levels g parts (min (suc l) g.top) b
    go true e =
        let h : suc l ≤ g.top = leb-true _ _ e in
        let q : min l g.top ≡ l = omega arith in
        let r : min (suc l) g.top ≡ suc l = omega arith in
        rw (q, r)
    go false e =
        let h : g.top < suc l = leb-false _ _ e in
        let q : min l g.top ≡ min (suc l) g.top = omega arith in
        rw q

levels_agree : (g : Geometry) (f h : ℕ → List Entry) (n : ℕ) (b : List ℕ) → ((j : ℕ) → 1 ≤ j → j ≤ n → f j ≡ h j)
    → put_levels g f n b ≡ put_levels g h n b
unfolding put_levels
levels_agree g f h zero b e = refl
levels_agree g f h (suc n) b e = rw (levels_agree g f h n b (λ j p q. e j p (omega arith)), e (suc n) (omega arith) (omega arith))

pub laid_agree : (g : Geometry) (f h : ℕ → List Entry) (l : ℕ) (b : List ℕ) → ((j : ℕ) → 1 ≤ j → j ≤ l → f j ≡ h j)
    → laid g f l b ≡ laid g h l b
unfolding laid
laid_agree g f h l b e = levels_agree g f h (min l g.top) b (λ j p q. e j p (omega arith))

rest_levels : (g : Geometry) (parts : ℕ → List Entry) (from n : ℕ) (b : List ℕ) → from + n ≤ g.top
    → ((j : ℕ) → from < j → parts j ≡ [])
    → bare g from n (put_levels g parts from b) ≡ put_levels g parts (from + n) b
unfolding bare put_levels
rest_levels g parts from zero b h e = let q : from + 0 ≡ from = omega arith in rw q
rest_levels g parts from (suc n) b h e =
    let q : from + suc n ≡ suc (from + n) = omega arith in
    rw (q, rest_levels g parts from n b (omega arith) e, e (suc (from + n)) (omega arith))

-- what is laid up to `from`, and no node above, is the whole page
pub rest_is : (g : Geometry) (parts : ℕ → List Entry) (from : ℕ) (b : List ℕ) → ((j : ℕ) → from < j → parts j ≡ [])
    → bare g from (g.top - from) (laid g parts from b) ≡ put_levels g parts g.top b
unfolding laid bare
rest_is g parts from b e = go (leb from g.top) refl
  where
    go : (t : Bool) → leb from g.top ≡ t → bare g from (g.top - from) (put_levels g parts (min from g.top) b)
        ≡ put_levels g parts g.top b
    go true p =
        let h : from ≤ g.top = leb-true _ _ p in
        let q : min from g.top ≡ from = omega arith in
        let r : from + (g.top - from) ≡ g.top = omega arith in
        rw q (rest_levels g parts from (g.top - from) b (omega arith) e ∙ rw r)
    go false p =
        let h : g.top < from = leb-false _ _ p in
        let q : min from g.top ≡ g.top = omega arith in
        let r : g.top - from ≡ 0 = omega arith in
        rw (q, r)

-- a page laid level by level, closed, stands in the buffer's first bytes
pub page_is : (g : Geometry) (parts : ℕ → List Entry) (from seq h : ℕ) (b c : List ℕ)
    → c ≡ sealed g (bare g from (g.top - from) (laid g parts from b)) seq h → b ≡ blanks longest_page
    → page_bytes g ≤ longest_page
    → ((j : ℕ) → from < j → parts j ≡ []) → take (page_bytes g) c ≡ built g seq h parts
unfolding blanks
page_is g parts from seq h b c ec eb le e =
    rw (ec, rest_is g parts from b e, eb) (page_cut g longest_page seq h parts le)

pub ruleset level_laws = (level_in, level_out, bare_start, bare_more, bare_done, bare_same, only_start, only_here, only_there, only_done, levels_same, close_is, only_is)
