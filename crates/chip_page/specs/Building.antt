-- Laws of pages being built, in the form in which the code has the premises. Assumes nothing.
use Rattle.std.specs.Prelude.{ℕ, zero, suc, ◌+◌, ◌*◌, ◌/◌, ◌%◌, ◌<◌, ◌≤◌, ◌≡◌, refl, List, [], ◌∷◌, ◌++◌, take, length, get_or, set, replicate}
use Rattle.std.proofs.Common.{sym, ap, ◌∙◌, length-set, length-take-le, take-suc, get_or-take, arith, add-one}
use Rattle.std.proofs.Math.Seq.{set_out}
use Rattle.geometry.specs.declared.Geometry.{Geometry}
use Rattle.geometry.specs.declared.Entry.{Entry}
use Rattle.geometry.specs.Geometry.{page_bytes, halves, code_place, first_slot}
use Rattle.model.specs.Codes.{fresh_code, put_code}
use Rattle.model.specs.Page.{put_u32, put_entry, put_entries, put_level, put_levels, numbered, coded, sealed, built}
use Rattle.theory_codes.specs.Repairs.{fresh_same}
use Rattle.theory_lists.specs.Places.{length_mapped, take_set}
use Rattle.tree_node.specs.declared.Node.{Node}
use Rattle.tree_node.specs.Node.{entries}
use Rattle.tree_node.specs.Changes.{no_entry, entries_length}

pub put_past : (b : List ℕ) (at v : ℕ) → length b ≤ at → b ≡ set b at v
put_past b at v h = sym (set_out b at v h)

pub word_is : (b b1 b2 b3 b4 : List ℕ) (at v : ℕ) → b4 ≡ set b3 (at + 3) (v / 16777216 % 256)
    → b3 ≡ set b2 (at + 2) (v / 65536 % 256)
    → b2 ≡ set b1 (at + 1) (v / 256 % 256) → b1 ≡ set b at (v % 256) → b4 ≡ put_u32 b at v
unfolding put_u32
word_is b b1 b2 b3 b4 at v h g f e = h ∙ rw (g, f, e)

pub entry_put : (b c d : List ℕ) (at k a : ℕ) (x : Entry) → d ≡ put_u32 c (at + 4) a → c ≡ put_u32 b at k → k ≡ x.key
    → a ≡ x.addr → d ≡ put_entry b at x
unfolding put_entry
entry_put b c d at k a x f e ek ea = f ∙ rw (e, ek, ea)

put_snoc : (b : List ℕ) (at : ℕ) (es : List Entry) (x : Entry) → put_entries b at (es ++ (x ∷ []))
    ≡ put_entry (put_entries b at es) (at + 8 * length es) x
unfolding put_entries
put_snoc b at [] x = let q : at + 0 ≡ at = omega arith in rw q
put_snoc b at (e ∷ es) x =
    put_snoc (put_entry b at e) (at + 8) es x ∙ (let q : at + 8 + 8 * length es ≡ at + 8 * suc (length es) =
    omega arith in rw q)

pub put_start : (b : List ℕ) (at : ℕ) → b ≡ put_entries b at []
unfolding put_entries
put_start b at = refl

pub put_more : (b m d : List ℕ) (at : ℕ) (es : List Entry) (k c : ℕ) → m ≡ put_entries b at (take k es)
    → d ≡ put_entry m (at + 8 * k) (get_or es k no_entry)
    → length es ≡ 256 → k < c → c ≤ 256 → d ≡ put_entries b at (take (k + 1) es)
put_more b m d at es k c e f len h g =
    let q : length (take k es) ≡ k = length-take-le k es (omega arith) in
    f ∙ rw (e, add-one, take-suc es k no_entry (omega arith), put_snoc, q)

pub put_done : (b m : List ℕ) (at k : ℕ) (n : Node) → m ≡ put_entries b at (take k n.e) → k ≤ n.count → n.count ≤ k
    → m ≡ put_entries b at (entries n)
unfolding entries
put_done b m at k n e h g = let q : k ≡ n.count = omega arith in e ∙ rw q

pub level_is : (g : Geometry) (b c d : List ℕ) (l f m k : ℕ) (n : Node) → d ≡ set c (m + 4 + k) (n.count % 256)
    → c ≡ put_entries b (8 * f) (entries n) → f ≡ first_slot g l → m ≡ g.main → k ≡ l
    → length n.e ≡ 256 → n.count ≤ 256 → d ≡ put_level g b l (entries n)
unfolding put_level
level_is g b c d l f m k n ed ec ef em ek len h = ed ∙ rw (ec, ef, em, ek, entries_length n len h)

pub none_is : (g : Geometry) (b d : List ℕ) (l m k : ℕ) → d ≡ set b (m + 4 + k) 0 → m ≡ g.main → k ≡ l
    → d ≡ put_level g b l []
unfolding put_level put_entries
none_is g b d l m k ed em ek = ed ∙ rw (em, ek)

pub numbered_is : (g : Geometry) (b c d : List ℕ) (m seq h : ℕ) → d ≡ set c (m + 4) (h % 256) → c ≡ put_u32 b m seq
    → m ≡ g.main → d ≡ numbered g b seq h
unfolding numbered
numbered_is g b c d m seq h ed ec em = ed ∙ rw (ec, em)

-- ---- the codes
pub code_is : (b b1 b2 b3 : List ℕ) (at v w : ℕ) → b3 ≡ set b2 (at + 2) (w / 65536 % 256)
    → b2 ≡ set b1 (at + 1) (w / 256 % 256) → b1 ≡ set b at (w % 256) → w ≡ v
    → b3 ≡ put_code b at v
unfolding put_code
code_is b b1 b2 b3 at v w g f e q = g ∙ rw (f, e, q)

pub coded_start : (g : Geometry) (b : List ℕ) → b ≡ coded g 0 b
unfolding coded
coded_start g b = refl

pub coded_more : (g : Geometry) (b m d : List ℕ) (k c v : ℕ) → m ≡ coded g k b → d ≡ put_code m c v → c ≡ code_place g k
    → v ≡ fresh_code m (256 * k) → d ≡ coded g (k + 1) b
unfolding coded
coded_more g b m d k c v em ed ec ev = ed ∙ rw (ec, ev, em, add-one)

pub coded_done : (g : Geometry) (b m : List ℕ) (k n : ℕ) → m ≡ coded g k b → n ≡ halves g → k ≤ n → n ≤ k
    → m ≡ coded g (halves g) b
coded_done g b m k n e en h l = let q : k ≡ n = omega arith in e ∙ rw (q, en)

length_coded : (g : Geometry) (k : ℕ) (b : List ℕ) → length (coded g k b) ≡ length b
unfolding coded put_code
length_coded g zero b = refl
length_coded g (suc k) b = simp length-set (length_coded g k b)

pub coded_same : (g : Geometry) (k : ℕ) (b d : List ℕ) → d ≡ coded g k b → length d ≡ length b
coded_same g k b d e = rw e (length_coded g k b)

pub sealed_is : (g : Geometry) (b c d : List ℕ) (seq h : ℕ) → d ≡ coded g (halves g) c → c ≡ numbered g b seq h
    → d ≡ sealed g b seq h
unfolding sealed
sealed_is g b c d seq h ed ec = ed ∙ rw ec

length_word : (b : List ℕ) (at v : ℕ) → length (put_u32 b at v) ≡ length b
unfolding put_u32
length_word b at v = simp length-set

length_entries : (b : List ℕ) (at : ℕ) (es : List Entry) → length (put_entries b at es) ≡ length b
unfolding put_entries put_entry
length_entries b at [] = refl
length_entries b at (e ∷ es) = length_entries (put_entry b at e) (at + 8) es ∙ length_word _ _ _ ∙ length_word _ _ _

pub length_level : (g : Geometry) (b : List ℕ) (l : ℕ) (es : List Entry) → length (put_level g b l es) ≡ length b
unfolding put_level
length_level g b l es = length-set (put_entries b (8 * first_slot g l) es) (g.main + 4 + l) (length es % 256)
    ∙ length_entries b (8 * first_slot g l) es

pub put_same : (b d : List ℕ) (at : ℕ) (es : List Entry) → d ≡ put_entries b at es → length d ≡ length b
put_same b d at es e = rw e (length_entries b at es)

-- ---- the first bytes of a longer buffer
take_word : (m : ℕ) (b : List ℕ) (at v : ℕ) → take m (put_u32 b at v) ≡ put_u32 (take m b) at v
unfolding put_u32
take_word m b at v = rw (take_set, take_set, take_set, take_set)

take_entries : (m : ℕ) (b : List ℕ) (at : ℕ) (es : List Entry) → take m (put_entries b at es) ≡ put_entries (take m b) at
    es
unfolding put_entries put_entry
take_entries m b at [] = refl
take_entries m b at (e ∷ es) = take_entries m (put_entry b at e) (at + 8) es ∙ rw (take_word, take_word)

take_level : (m : ℕ) (g : Geometry) (b : List ℕ) (l : ℕ) (es : List Entry) → take m (put_level g b l es) ≡ put_level g
    (take m b) l es
unfolding put_level
take_level m g b l es = rw (take_set, take_entries)

take_levels : (m : ℕ) (g : Geometry) (parts : ℕ → List Entry) (n : ℕ) (b : List ℕ) → take m (put_levels g parts n b)
    ≡ put_levels g parts n (take m b)
unfolding put_levels
take_levels m g parts zero b = refl
take_levels m g parts (suc n) b = take_level m g (put_levels g parts n b) (suc n) (parts (suc n))
    ∙ rw (take_levels m g parts n b)

take_numbered : (m : ℕ) (g : Geometry) (b : List ℕ) (seq h : ℕ) → take m (numbered g b seq h) ≡ numbered g
    (take m b) seq h
unfolding numbered
take_numbered m g b seq h = rw (take_set, take_word)

take_code : (m : ℕ) (b : List ℕ) (c v : ℕ) → take m (put_code b c v) ≡ put_code (take m b) c v
unfolding put_code
take_code m b c v = rw (take_set, take_set, take_set)

take_fresh : (m : ℕ) (b : List ℕ) (at : ℕ) → at + 256 ≤ m → fresh_code b at ≡ fresh_code (take m b) at
take_fresh m b at h = sym (fresh_same b (take m b) at at (λ i l. get_or-take m b (at + i) 0 (omega arith)))

take_coded : (m : ℕ) (g : Geometry) (k : ℕ) (b : List ℕ) → 256 * k ≤ m → take m (coded g k b) ≡ coded g k (take m b)
unfolding coded
take_coded m g zero b h = refl
take_coded m g (suc k) b h =
    take_code m (coded g k b) (code_place g k) (fresh_code (coded g k b) (256 * k))
    ∙ rw (take_fresh m (coded g k b) (256 * k) (omega arith), take_coded m g k b (omega arith))

take_sealed : (m : ℕ) (g : Geometry) (b : List ℕ) (seq h : ℕ) → g.main ≤ m → take m (sealed g b seq h) ≡ sealed g
    (take m b) seq h
unfolding sealed
take_sealed m g b seq h le = take_coded m g (halves g) (numbered g b seq h) (omega arith) ∙ rw take_numbered

take_blank : (m n : ℕ) → m ≤ n → take {A = ℕ} m (replicate n 255) ≡ replicate m 255
take_blank zero n h = refl
take_blank (suc m) zero h = absurd (omega arith)
take_blank (suc m) (suc n) h = ap (λ (l : List ℕ). 255 ∷ l) (take_blank m n (omega arith))

-- the page that stands in the first bytes of a buffer
pub page_cut : (g : Geometry) (n seq h : ℕ) (parts : ℕ → List Entry) → page_bytes g ≤ n
    → take (page_bytes g) (sealed g (put_levels g parts g.top (replicate n 255)) seq h) ≡ built g seq h parts
unfolding built
page_cut g n seq h parts le = take_sealed (page_bytes g) g _ seq h (omega arith)
    ∙ rw (take_levels, take_blank (page_bytes g) n le)

pub ruleset page_laws = (put_past, word_is, entry_put, put_start, put_more, put_done, level_is, none_is, numbered_is, coded_start, coded_more, coded_done, coded_same, sealed_is, length_mapped, put_same)
