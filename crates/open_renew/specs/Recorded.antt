-- Laws of the record, in the form in which the code has the premises. Assumes nothing.
use Rattle.std.specs.Prelude.{ℕ, ◌+◌, ◌-◌, ◌*◌, ◌%◌, ◌<◌, ◌≤◌, min, Bool, true, false, ◌≡◌, refl, List, eqb, ltb}
use Rattle.std.proofs.Math.Path.{sym}
use Rattle.std.proofs.Common.{ap, ◌∙◌, Fits, arith, add-one}
use Rattle.std.specs.Int.{w8}
use borrow.Author.Tests.{eq-eqb, ne_eqb, eqb-true, lt-ltb, le-ltb}
use Rattle.geometry.specs.declared.Geometry.{Geometry}
use Rattle.geometry.specs.Tests.{and_true, and_false, and_none, and_right}
use Rattle.geometry.specs.Bounds.{four_bytes}
use Rattle.model.specs.Bytes.{byte_at, erased, seq_at, height_at}
use Rattle.model.specs.Image.{pages_of, seq_of, height_of, root_of}
use Rattle.model.specs.Next.{next_page}
use Rattle.chip_survey.specs.declared.Survey.{Survey}
use Rattle.chip_survey.specs.Survey.{survey_of}
use Rattle.open_record.specs.declared.Opened.{Opened}
use Rattle.open_record.specs.Opened.{opened_in, standing}
use Rattle.chip_next.specs.Coming.{seen}
use Rattle.live_beside.specs.Beside.{Beside, next_after}
use Rattle.live_beside.specs.Collect.{next_erased, record_erased}
use Rattle.live_beside.specs.Update.{Crest, record_made}
use Rattle.open_renew.specs.Recording.{record_swept, onward_swept, record_at}

-- ---- from a survey
pub number_none : (g : Geometry) (img : List ℕ) (p : ℕ) (e : Bool) → e ≡ erased g img p → e ≡ true → 0 ≡ seq_of g img p
unfolding seq_of
number_none g img p e ee q = simp (← ee, q)

pub number_some : (g : Geometry) (img : List ℕ) (p x : ℕ) (e : Bool) → x ≡ seq_at g img p → e ≡ erased g img p
    → e ≡ false → x ≡ seq_of g img p
unfolding seq_of
number_some g img p x e ex ee q = ex ∙ simp (← ee, q)

pub record_is : (g : Geometry) (n x y z : ℕ) (img : List ℕ) (s : Survey) → s ≡ survey_of g n img → x ≡ seq_of g img
    s.root → z ≡ min (pages_of g n) y
    → y ≡ next_page g.pages n (seen (erased g img) s.last)
    → record { root = s.root; number = x; most = s.most; height = s.height; next = z; erased = s.erased }
    ≡ opened_in g n img
unfolding survey_of opened_in
record_is g n x y z img s es ex ez ey = λ i. record {
  root = (es i).root;
  number = (ex ∙ ap (λ (t : Survey). seq_of g img t.root) es) i;
  most = (es i).most;
  height = (es i).height;
  next = (ez ∙ ap (min (pages_of g n)) (ey ∙ ap (λ (t : Survey). next_page g.pages n (seen (erased g img) t.last)) es)) i;
  erased = (es i).erased;
}

-- a height byte
pub height_low : (g : Geometry) (n : ℕ) (img : List ℕ) (s : Survey) (r : Opened) → r ≡ opened_in g n img
    → s ≡ survey_of g n img → s.level < 255 → r.height < 256
unfolding survey_of opened_in
height_low g n img s r er es h =
    let a : s.level ≡ height_of g img (root_of g n img) - 1 = ap (λ (t : Survey). t.level) es in
    let b : r.height ≡ height_of g img (root_of g n img) = ap (λ (t : Opened). t.height) er in
    omega arith

-- ---- after an erase
pub record_on : (g : Geometry) (n root most next a b c d : ℕ) (o : Opened) (img : List ℕ)
    → a ≡ o.erased - (most - o.most) + g.pages
    → c ≡ min (pages_of g n) b → b ≡ next_erased g.pages n (erased g img) root next → d ≡ most % four_bytes
    → record { root = root; number = d; most = d; height = o.height; next = c; erased = a } ≡ onward_swept g n o root
    most next img
unfolding onward_swept
record_on g n root most next a b c d o img ea ec eb ed = λ i. record {
  root = root;
  number = ed i;
  most = ed i;
  height = o.height;
  next = (ec ∙ ap (min (pages_of g n)) eb) i;
  erased = ea i;
}

module _ (g : Geometry) (n root most next x : ℕ) (o r : Opened) (img : List ℕ) where
  pub swept_more : r ≡ onward_swept g n o root most next img → x ≡ o.most → (most ≡ x → ⊥)
      → r ≡ record_swept g n o root most next img
  unfolding record_swept record_erased onward_swept
  swept_more e ex h = e ∙ sym (rw (ne_eqb most o.most (λ z. h (z ∙ sym ex)), and_false))

  pub swept_root : r ≡ onward_swept g n o root most next img → o.number ≡ o.most
      → r ≡ record_swept g n o root most next img
  unfolding record_swept record_erased onward_swept
  swept_root e h = e ∙ sym (rw (eq-eqb o.number o.most h, and_none))

  pub swept_anew : r ≡ opened_in g n img → x ≡ o.most → most ≡ x → (o.number ≡ o.most → ⊥)
      → r ≡ record_swept g n o root most next img
  unfolding record_swept record_erased
  swept_anew e ex h z = e ∙ sym (rw (eq-eqb most o.most (h ∙ ex), ne_eqb o.number o.most z, and_true))

-- the height stays
pub height_on : (g : Geometry) (n root most next : ℕ) (o r : Opened) (img : List ℕ)
    → r ≡ onward_swept g n o root most next img → o.height < 256 → r.height < 256
unfolding onward_swept
height_on g n root most next o r img e h = rw (ap (λ (y : Opened). y.height) e) h

-- a record asks of a sweep for its root, its largest number and its next page
pub swept_is : (g : Geometry) (n : ℕ) (o : Opened) (h : Beside) (then : List ℕ) → record_swept g n o h.root h.most
    h.next then ≡ record_erased g n o h then
unfolding record_swept record_erased
swept_is g n o h then = refl

-- ---- after own pages
pub made_is : (g : Geometry) (n m page level a b c d s u v : ℕ) (o : Opened) (img : List ℕ) → a ≡ (u + v) % four_bytes
    → u ≡ o.most → v ≡ m
    → c ≡ min (pages_of g n) b → b ≡ next_after g.pages n (erased g img) page → d ≡ o.erased - s → s ≡ m
    → record { root = page; number = a; most = a; height = level + 1; next = c; erased = d } ≡ record_at g n o m page
    level img
unfolding record_at record_made
made_is g n m page level a b c d s u v o img ea eu ev ec eb ed es = λ i. record {
  root = page;
  number = number i;
  most = number i;
  height = add-one level i;
  next = (ec ∙ ap (min (pages_of g n)) eb) i;
  erased = (ed ∙ ap (λ (y : ℕ). o.erased - y) es) i;
}
  where
    number : a ≡ (o.most + m) % four_bytes
    number = ea ∙ rw (eu, ev)

pub made_at : (g : Geometry) (n : ℕ) (o : Opened) (m : ℕ) (t : Crest) (then : List ℕ) → record_at g n o m t.page
    t.level then ≡ record_made g n o m t then
unfolding record_at record_made
made_at g n o m t then = refl

-- ---- STALE
module _ (g : Geometry) (n t : ℕ) (img : List ℕ) (o : Opened) (et : t ≡ g.pages * n) where
  pub stale_past : t ≤ o.root → false ≡ standing g n img o
  unfolding standing
  stale_past h = sym (rw (le-ltb o.root (g.pages * n) (rw (← et) h), and_false, and_false, and_false))

  module _ (h : o.root < t) (e : Bool) (ee : e ≡ erased g img o.root) where
    within : ltb o.root (g.pages * n) ≡ true
    within = lt-ltb o.root (g.pages * n) (rw (← et) h)

    pub stale_erased : e ≡ true → false ≡ standing g n img o
    unfolding standing
    stale_erased q = sym (rw (within, ← ee, q, and_true, and_false, and_false))

    module _ (q : e ≡ false) (x : ℕ) (ex : x ≡ seq_at g img o.root) where
      pub stale_number : (x ≡ o.number → ⊥) → false ≡ standing g n img o
      unfolding standing
      stale_number z = sym (rw (within, ← ee, q, ← ex, ne_eqb x o.number z, and_true, and_true, and_false))

      pub stale_height : (y : ℕ) → y ≡ height_at g img o.root → x ≡ o.number → eqb y o.height ≡ standing g n img o
      unfolding standing
      stale_height y ey z = sym (rw (within, ← ee, q, ← ex, eq-eqb x o.number z, and_true, and_true, and_true, ← ey))

-- a record that stands has a height byte
pub standing_low : (g : Geometry) (n : ℕ) (img : List ℕ) (o : Opened) → standing g n img o ≡ true
    → ((i : ℕ) → Fits w8 (byte_at img i)) → o.height < 256
unfolding standing height_at
standing_low g n img o e bytes =
    let h : height_at g img o.root ≡ o.height = eqb-true _ _ (and_right _ _ e) in
    rw (← h) (bytes _).fits

pub ruleset recording_laws = (number_none, number_some, record_is, height_low, record_on, swept_more, swept_root, swept_anew, height_on, made_is, stale_past, stale_erased, stale_number, stale_height)
