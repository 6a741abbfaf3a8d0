-- A buffer that is read into behind what is there.
use Rattle.std.proofs.Common.{◌≡◌, inl, inr, false, nat_eq, ℕ, suc, ◌+◌, ◌-◌, ◌<◌, ◌≤◌, List, [], ◌∷◌, ◌++◌, length, sym, ap, subst, ◌∙◌, arith, refl, take, drop, Some, None, append_assoc, append-nil}
use Rattle.std.specs.Prelude.{Option, slice_range}
use Rattle.std.specs.Io.KnownBytes.{Consumes, Keeps, IsAtEnd, prepend_known}
use Rattle.pci_dump.specs.State.{Ahead, IsOver}
use Rattle.pci_dump.specs.Fill.{HoldsMore, Moves, IsSameText}
use Rattle.std.proofs.lemmas.Bool.{eqb-true, cases_eq, eq-eqb, false≢true}
use Rattle.std.proofs.lemmas.List.{length-take, length-drop, length-append, take-append-le, drop-append-le, drop-take}
use borrow.Rule.Slice.PartMut.{put_mid, post_of}

take_behind : (a b c : List ℕ) (n : ℕ) → n ≤ length b → take (length a + n) (a ++ (b ++ c)) ≡ a ++ take n b
take_behind [] b c n h = (let e : 0 + n ≡ n = omega arith in ap (λ (j : ℕ). take j (b ++ c)) e) ∙ take-append-le n b c h
take_behind (x ∷ a) b c n h =
    let e : length (x ∷ a) + n ≡ suc (length a + n) = omega arith in
    ap (λ (j : ℕ). take j (x ∷ (a ++ (b ++ c)))) e ∙ ap (λ (t : List ℕ). x ∷ t) (take_behind a b c n h)

-- what is there now
pub between_new : (buf new : List ℕ) (at end k n : ℕ) → at ≤ end → end ≤ length buf → n ≤ length new → slice_range (put_mid end k buf new) at (end + n) ≡ slice_range buf at end ++ take n new
between_new buf new at end k n lo hi few =
    let front = take end buf in
    let long = length-take end buf in
    let behind : List ℕ = new ++ post_of end k buf in
    let cut : drop at (front ++ behind) ≡ drop at front ++ behind = drop-append-le at front behind (omega (arith, long, lo, hi)) in
    let m : end + n - at ≡ length (drop at front) + n = (let d = length-drop at front in omega (arith, d, long, lo, hi)) in
    let same : drop at front ≡ slice_range buf at end = (let e : at + (end - at) ≡ end = omega (arith, lo) in ap (λ (j : ℕ). drop at (take j buf)) (sym e) ∙ drop-take at (end - at) buf) in
    (λ i. take (m i) (cut i)) ∙ take_behind (drop at front) new (post_of end k buf) n few ∙ ap (λ (t : List ℕ). t ++ take n new) same

pub kept_more : (o s t : Option (List ℕ)) (buf new : List ℕ) (at end k n : ℕ) → prepend_known (slice_range buf at end) s ≡ o → at ≤ end → end ≤ length buf → n ≤ length new → Consumes s t (take n new)
    → Keeps o (prepend_known (slice_range (put_mid end k buf new) at (end + n)) t)
kept_more o None t buf new at end k n e lo hi few h = subst (λ (v : Option (List ℕ)). Keeps v (prepend_known (slice_range (put_mid end k buf new) at (end + n)) t)) e tt
kept_more o (Some bs) None buf new at end k n e lo hi few h = absurd h
kept_more o (Some bs) (Some cs) buf new at end k n e lo hi few h =
    subst (λ (v : Option (List ℕ)). Keeps v (Some (slice_range (put_mid end k buf new) at (end + n) ++ cs))) e
    (ap (λ (t : List ℕ). t ++ cs) (between_new buf new at end k n lo hi few) ∙ append_assoc (slice_range buf at end) (take n new) cs ∙ ap (λ (t : List ℕ). slice_range buf at end ++ t) (sym h))

pub kept_failed : (o s t : Option (List ℕ)) (buf new : List ℕ) (at end k : ℕ) → prepend_known (slice_range buf at end) s ≡ o → at ≤ end → end ≤ length buf → Keeps s t
    → Keeps o (prepend_known (slice_range (put_mid end k buf new) at end) t)
kept_failed o None t buf new at end k e lo hi h = subst (λ (v : Option (List ℕ)). Keeps v (prepend_known (slice_range (put_mid end k buf new) at end) t)) e tt
kept_failed o (Some bs) None buf new at end k e lo hi h = absurd h
kept_failed o (Some bs) (Some cs) buf new at end k e lo hi h =
    let z : end ≡ end + 0 = omega arith in
    subst (λ (v : Option (List ℕ)). Keeps v (Some (slice_range (put_mid end k buf new) at end ++ cs))) e
    (ap (λ (j : ℕ). slice_range (put_mid end k buf new) at j ++ cs) z ∙ ap (λ (t : List ℕ). t ++ cs) (between_new buf new at end k 0 lo hi (omega arith) ∙ append-nil (slice_range buf at end)) ∙ ap (λ (t : List ℕ). slice_range buf at end ++ t) h)

-- how many bytes are held
pub range_long : (buf : List ℕ) (at end : ℕ) → at ≤ end → end ≤ length buf → length (slice_range buf at end) ≡ end - at
range_long buf at end lo hi =
    let t = length-take (end - at) (drop at buf) in
    let d = length-drop at buf in
    omega (arith, t, d, lo, hi)

-- a read put some bytes behind those that are held, or told the end
pub holds_more : (old new : Ahead) (before after : Option (List ℕ)) (buf got : List ℕ) (held k n : ℕ) → old.held ≡ slice_range buf 0 held → held ≤ length buf → n ≤ length got → 0 < length got
    → Consumes before after (take n got) × (n ≡ 0 → 0 < length got → IsAtEnd after) → new.held ≡ slice_range (put_mid held k buf got) 0 (held + n) → new.drained ≡ nat_eq n 0 → IsSameText old new
    → HoldsMore old new before after
holds_more old new before after buf got held k n o hi few room bytes new_is drained same = record {
  kept = subst (λ (t : List ℕ). Keeps (prepend_known old.held before) (prepend_known t after)) (sym new_is)
      (kept_more (prepend_known old.held before) before after buf got 0 held k n (ap (λ (t : List ℕ). prepend_known t before) (sym o)) (omega arith) hi few bytes.0);
  over = (λ e. bytes.1 (eqb-true n 0 (sym drained ∙ e)) room);
  more = elim (cases_eq n 0) [
    | inl none ↦ inl (drained ∙ eq-eqb n 0 none)
    | inr some ↦
        let all = ap length new_is ∙ ap length (between_new buf got 0 held k n (omega arith) hi few) ∙ length-append (slice_range buf 0 held) (take n got) in
        let was = ap length o in
        let t = length-take n got in
        inr (omega (arith, all, was, t, few, some))
  ];
  text = same;
}

-- a read failed
pub moves_none : (old new : Ahead) (before after : Option (List ℕ)) (buf got : List ℕ) (held k : ℕ) → old.held ≡ slice_range buf 0 held → held ≤ length buf
    → Keeps before after → new.held ≡ slice_range (put_mid held k buf got) 0 held → new.drained ≡ false → IsSameText old new → Moves old new before after
moves_none old new before after buf got held k o hi kept new_is drained same = record {
  kept = subst (λ (t : List ℕ). Keeps (prepend_known old.held before) (prepend_known t after)) (sym new_is)
      (kept_failed (prepend_known old.held before) before after buf got 0 held k (ap (λ (t : List ℕ). prepend_known t before) (sym o)) (omega arith) hi kept);
  over = (λ e. absurd (false≢true (sym drained ∙ e)));
  text = same;
}

-- known bytes that stay
pub keeps_same : (o : Option (List ℕ)) → Keeps o o
keeps_same None = tt
keeps_same (Some xs) = refl

-- no read so far, and one read more
pub moves_start : (old : Ahead) (before : Option (List ℕ)) → IsOver old before → Moves old old before before
moves_start old before over = record { kept = keeps_same (prepend_known old.held before); over = over; text = record { count = refl; last = refl; progress = refl } }
