-- Texts that are read on, and two that are read side by side.
use Rattle.std.proofs.Common.{◌≡◌, ◌≢◌, ◌⊎◌, ℕ, ◌+◌, ◌<◌, List, [], ◌∷◌, ◌++◌, length, take, get_or, refl, inl, inr, arith, sym, ◌∙◌, ap, subst, Bool, true, false, Option, Some, None, Ok, Err, append-nil, append_assoc}
use Rattle.std.specs.Prelude.{IfOk}
use Rattle.std.specs.declared.result.Result.{Result}
use Rattle.std.proofs.lemmas.List.{length-append, map_push}
use Rattle.std.proofs.lemmas.List.Elements.{All-nil}
use Rattle.pci_spec.specs.Slot.{Slot}
use Rattle.pci_spec.specs.Text.{Block, IsBlock, slots_of}
use Rattle.pci_spec.specs.System.{function_of, system_of}
use Rattle.pci_spec.specs.Fault.{SlotsDiffer}
use Rattle.pci_dump.specs.declared.read_fault.ReadFault.{ReadFault}
use Rattle.pci_dump.specs.declared.ahead.Progress.{Progress}
use Rattle.pci_dump.specs.declared.ahead.Progress.TheVariants as stages
use Rattle.std.specs.Io.KnownBytes.{Consumes, prepend_known}
use Rattle.pci_dump.specs.State.{Ahead, State, state_of, IsRead, TakesBlock, TakesNone, TakesBlockOrNone, TakesFault}
use Rattle.pci_dump.proofs.Texts.{read_all, read_all_one, read_fault, read_more_text}
use Rattle.pci_tree.proofs.Pairs.{in_left, in_right, in_left_more, in_right_more, none_below_both, none_below_left, none_below_right}
use Rattle.pci_tree.specs.Survey.{Surveyed, IsSurveyOf, IsAdded}
use Rattle.pci_tree.proofs.Surveys.{survey_more}
use Rattle.pci_spec.proofs.Pairing.{same_length, system_last}
use Rattle.pci_tree.proofs.Pairings.{open_more}
use Rattle.pci_check.specs.Audits.{IsDumpOf, IsReadFaultOf}
use Rattle.pci_check.specs.SideBySide.{Texts, IsReadSoFar, IsRest, IsOpen, IsSurveyOfBoth, IsSurveyOfTexts, IsSideBySide, IsDecided, IsBesideOrDecided, IsTakenBySurvey}

-- ---- one text

stages_are : (p : Progress) → (p ≡ stages.Open) ⊎ (p ≡ stages.Done) ⊎ ((fault : ReadFault) × (p ≡ stages.Failed fault))
stages_are stages.Open = inl refl
stages_are stages.Done = inr (inl refl)
stages_are (stages.Failed fault) = inr (inr (fault, refl))

-- up to a block's end
pub taken_open : (left : Option (List ℕ)) (failures : ℕ) (state : State) (blocks : List Block) → IsRead left failures state blocks → IsReadSoFar left failures state blocks
taken_open left failures state blocks r = record {
  dump = r.dump;
  going = λ e. r;
  whole = λ e. absurd (let open_now = r.going in cc);
  stopped = λ fault e. absurd (let open_now = r.going in cc);
}

dump_at_end : (left : Option (List ℕ)) (failures : ℕ) (old new : State) (blocks : List Block) → IsRead left failures old blocks → TakesNone old new → IsDumpOf left blocks
dump_at_end left failures old new blocks r t = record {
  text = λ bytes known. read_all left failures old new blocks bytes r t known;
  only = λ bytes known others text. read_all_one left failures old new blocks others bytes r t known text;
}

-- up to its end
pub taken_end : (left : Option (List ℕ)) (failures : ℕ) (old new : State) (blocks : List Block) → IsRead left failures old blocks → TakesNone old new → IsReadSoFar left failures new blocks
taken_end left failures old new blocks r t = record {
  dump = r.dump;
  going = λ e. absurd (let done_now = t.progress in cc);
  whole = λ e. (dump_at_end left failures old new blocks r t, t.failures ∙ r.fine);
  stopped = λ fault e. absurd (let done_now = t.progress in cc);
}

fault_of_text : (left : Option (List ℕ)) (failures : ℕ) (old new : State) (blocks : List Block) (fault : ReadFault) → IsRead left failures old blocks → TakesFault old new fault → IsReadFaultOf left failures new.failures fault
fault_of_text left failures old new blocks fault r t = record {
  io = λ e. t.io e r.going ∙ ap (λ n. n + 1) r.fine;
  whole = λ no_io. t.fine no_io ∙ r.fine;
  told = λ no_io bytes known. read_fault left failures old new blocks bytes fault r t known no_io;
  other = t.no_memory;
}

-- up to a fault
pub taken_fault : (left : Option (List ℕ)) (failures : ℕ) (old new : State) (blocks : List Block) (fault : ReadFault) → IsRead left failures old blocks → TakesFault old new fault → IsReadSoFar left failures new blocks
taken_fault left failures old new blocks fault r t = record {
  dump = r.dump;
  going = λ e. absurd (let failed_now = t.progress in cc);
  whole = λ e. absurd (let failed_now = t.progress in cc);
  stopped = λ other e. subst (IsReadFaultOf left failures new.failures) (let failed_now = t.progress in cc) (fault_of_text left failures old new blocks fault r t);
}

-- ---- a text that is read on

-- of a text just blocks were taken since, and none where it was at its end or at a fault
pub record IsReadOn (old new : State) : Type 0 where
  pub same_stage : new.progress ≡ old.progress
  pub each : (left : Option (List ℕ)) (failures : ℕ) (blocks : List Block) → IsReadSoFar left failures old blocks
      → (more : List Block) × IsReadSoFar left failures new (blocks ++ more) × (old.progress ≢ stages.Open → more ≡ [])

pub read_on_none : (s : State) → IsReadOn s s
read_on_none s = record {
  same_stage = refl;
  each = λ left failures blocks is. ([], subst (IsReadSoFar left failures s) (sym (append-nil blocks)) is, λ closed. refl);
}

pub read_on_block : (old now new : State) (b : Block) → IsReadOn old now → TakesBlock now new b → IsReadOn old new
read_on_block old now new b on t = record {
  same_stage = t.progress ∙ sym t.was_open ∙ on.same_stage;
  each = λ left failures blocks is. (
      let more = on.each left failures blocks is in
      let r : IsRead left failures now (blocks ++ more.0) = more.1.going t.was_open in
      let e : (blocks ++ more.0) ++ b ∷ [] ≡ blocks ++ (more.0 ++ b ∷ []) = append_assoc blocks more.0 (b ∷ []) in
      let was_open : old.progress ≡ stages.Open = sym on.same_stage ∙ t.was_open in (
        more.0 ++ b ∷ [],
        taken_open left failures new (blocks ++ (more.0 ++ b ∷ [])) (read_more_text left failures now new (blocks ++ more.0) (blocks ++ (more.0 ++ b ∷ [])) b r t (sym e)),
        λ closed. absurd (closed was_open),
      )
      );
}

-- to its end
pub read_out_rest : (old now new : State) → IsReadOn old now → TakesNone now new → ((fault : ReadFault) → now.progress ≡ stages.Failed fault → ⊥)
    → (left : Option (List ℕ)) (failures : ℕ) (blocks : List Block) → IsReadSoFar left failures old blocks
    → (more : List Block) × IsRest old blocks more × IsDumpOf left (blocks ++ more) × (new.failures ≡ failures)
read_out_rest old now new on t no_fault left failures blocks is =
    let more = on.each left failures blocks is in
    let rest : IsRest old blocks more.0 = record {
      dump = more.1.dump;
      none = λ e. more.2 (λ o. absurd cc);
      going = λ fault e. no_fault fault (on.same_stage ∙ e);
    } in
    elim (stages_are now.progress) [
      | inl o ↦ (more.0, rest, dump_at_end left failures now new (blocks ++ more.0) (more.1.going o) t, t.failures ∙ (more.1.going o).fine)
      | inr (inl d) ↦ (more.0, rest, (more.1.whole d).0, t.failures ∙ (more.1.whole d).1)
      | inr (inr (fault, f)) ↦ absurd (no_fault fault f)
    ]

-- to a fault
pub read_out_fault : (old now new : State) (fault : ReadFault) → IsReadOn old now → TakesFault now new fault → (now.progress ≡ stages.Done → ⊥)
    → ((other : ReadFault) → now.progress ≡ stages.Failed other → fault ≡ other) → (now.progress ≢ stages.Open → new.failures ≡ now.failures)
    → (left : Option (List ℕ)) (failures : ℕ) (blocks : List Block) → IsReadSoFar left failures old blocks → IsReadFaultOf left failures new.failures fault
read_out_fault old now new fault on t not_done again untouched left failures blocks is =
    let more = on.each left failures blocks is in
    elim (stages_are now.progress) [
      | inl o ↦ fault_of_text left failures now new (blocks ++ more.0) fault (more.1.going o) t
      | inr (inl d) ↦ absurd (not_done d)
      | inr (inr (other, f)) ↦ subst (λ n. IsReadFaultOf left failures n fault) (sym (untouched (λ o. absurd cc)))
          (subst (IsReadFaultOf left failures now.failures) (sym (again other f)) (more.1.stopped other f))
    ]

-- ---- lists of blocks

place_last : (ds ms : List Block) (b : Block) → b ≡ get_or ((ds ++ b ∷ []) ++ ms) (length ds) b
place_last [] ms b = refl
place_last (d ∷ ds) ms b = place_last ds ms b

slots_before : (ds ms : List Block) (b : Block) → take (length ds) (slots_of ((ds ++ b ∷ []) ++ ms)) ≡ slots_of ds
slots_before [] ms b = refl
slots_before (d ∷ ds) ms b = ap (λ ss. d.slot ∷ ss) (slots_before ds ms b)

slots_front : (ds ms : List Block) → take (length ds) (slots_of (ds ++ ms)) ≡ slots_of ds
slots_front [] ms = refl
slots_front (d ∷ ds) ms = ap (λ ss. d.slot ∷ ss) (slots_front ds ms)

longer : (ds ms : List Block) (b : Block) → length ds < length ((ds ++ b ∷ []) ++ ms)
longer ds ms b = let one = length-append (ds ++ b ∷ []) ms in let two = length-append ds (b ∷ []) in omega (arith, one, two)

no_more : (ds ms : List Block) → ms ≡ [] → ds ≡ ds ++ ms
no_more ds ms e = sym (ap (λ xs. ds ++ xs) e ∙ append-nil ds)

-- one function more
-- ---- two texts

-- the dump's fault
pub decided_by_dump : (texts : Texts) (buses : List ℕ) (d e p : State) (v : Surveyed) (fault : ReadFault) → IsSideBySide texts buses d p v → TakesFault d e fault → IsDecided texts buses e p v
decided_by_dump texts buses d e p v fault s t = record {
  dump = s.dump;
  probe = s.probe;
  dump_taken = taken_fault texts.dump_left texts.dump_failures d e s.dump fault s.dump_read t;
  probe_taken = taken_open texts.probe_left texts.probe_failures p s.probe s.probe_read;
  roots = s.roots;
  decided = λ more_dump more_probe rd rp. absurd (rd.going fault t.progress);
}

module _ (texts : Texts) (buses : List ℕ) (d e p q : State) (v : Surveyed) where
  -- a block more of each
  pub beside_more : (w : Surveyed) (b c : Block) → IsSideBySide texts buses d p v → TakesBlock d e b → TakesBlock p q c → c.slot ≡ b.slot → IsAdded v w (function_of b c) → IsSideBySide texts buses e q w
  beside_more w b c s tb tc slot added = record {
    dump = s.dump ++ b ∷ [];
    probe = s.probe ++ c ∷ [];
    dump_read = read_more_text texts.dump_left texts.dump_failures d e s.dump (s.dump ++ b ∷ []) b s.dump_read tb refl;
    probe_read = read_more_text texts.probe_left texts.probe_failures p q s.probe (s.probe ++ c ∷ []) c s.probe_read tc refl;
    same = map_push (λ (x : Block). x.slot) s.dump b ∙ ap (λ (ss : List Slot). ss ++ b.slot ∷ []) s.same ∙ ap (λ (z : Slot). slots_of s.probe ++ z ∷ []) (sym slot) ∙ sym (map_push (λ (x : Block). x.slot) s.probe c);
    taken = subst (IsSurveyOf w) (sym (system_last s.dump s.probe b c (same_length s.dump s.probe s.same))) (survey_more v w (system_of s.dump s.probe) (function_of b c) added s.taken);
    no_30 = open_more v w (function_of b c) added s.no_30;
    roots = added.roots ∙ s.roots;
    last = added.last ∙ sym tb.last;
  }

  -- the probe's, whatever was taken of the dump
  pub decided_by_probe : (fault : ReadFault) (b : Block) (taken : Bool) → IsSideBySide texts buses d p v → TakesBlockOrNone taken d e b → TakesFault p q fault → IsDecided texts buses e q v
  decided_by_probe fault b false s td t = record {
    dump = s.dump;
    probe = s.probe;
    dump_taken = taken_end texts.dump_left texts.dump_failures d e s.dump s.dump_read td;
    probe_taken = taken_fault texts.probe_left texts.probe_failures p q s.probe fault s.probe_read t;
    roots = s.roots;
    decided = λ more_dump more_probe rd rp. absurd (rp.going fault t.progress);
  }
  decided_by_probe fault b true s td t = record {
    dump = s.dump ++ b ∷ [];
    probe = s.probe;
    dump_taken = taken_open texts.dump_left texts.dump_failures e (s.dump ++ b ∷ []) (read_more_text texts.dump_left texts.dump_failures d e s.dump (s.dump ++ b ∷ []) b s.dump_read td refl);
    probe_taken = taken_fault texts.probe_left texts.probe_failures p q s.probe fault s.probe_read t;
    roots = s.roots;
    decided = λ more_dump more_probe rd rp. absurd (rp.going fault t.progress);
  }

  -- both ends
  pub decided_at_ends : IsSideBySide texts buses d p v → TakesNone d e → TakesNone p q → IsDecided texts buses e q v
  decided_at_ends s td tp = record {
    dump = s.dump;
    probe = s.probe;
    dump_taken = taken_end texts.dump_left texts.dump_failures d e s.dump s.dump_read td;
    probe_taken = taken_end texts.probe_left texts.probe_failures p q s.probe s.probe_read tp;
    roots = s.roots;
    decided = λ more_dump more_probe rd rp.
        subst (λ (ds : List Block). IsSurveyOfBoth v ds (s.probe ++ more_probe)) (no_more s.dump more_dump (rd.none td.progress))
        (subst (λ (ps : List Block). IsSurveyOfBoth v s.dump ps) (no_more s.probe more_probe (rp.none tp.progress)) (inl (s.same, s.taken, s.no_30)));
  }

  -- a slot that the dump has alone, behind all of the probe's
  pub decided_behind_probe : (w : Surveyed) (b : Block) → IsSideBySide texts buses d p v → TakesBlock d e b → TakesNone p q → w.roots ≡ v.roots → w.fault ≡ Some (SlotsDiffer b.slot) → IsDecided texts buses e q w
  decided_behind_probe w b s td tp roots noted = record {
    dump = s.dump ++ b ∷ [];
    probe = s.probe;
    dump_taken = taken_open texts.dump_left texts.dump_failures e (s.dump ++ b ∷ []) (read_more_text texts.dump_left texts.dump_failures d e s.dump (s.dump ++ b ∷ []) b s.dump_read td refl);
    probe_taken = taken_end texts.probe_left texts.probe_failures p q s.probe s.probe_read tp;
    roots = roots ∙ s.roots;
    decided = λ more_dump more_probe rd rp. (
        let long = same_length s.dump s.probe s.same in
        let short = ap length (no_more s.probe more_probe (rp.none tp.progress)) in
        inr (
          b.slot,
          noted,
          in_left_more ((s.dump ++ b ∷ []) ++ more_dump) (s.probe ++ more_probe) b (length s.dump) rd.dump.rising rp.dump.rising (longer s.dump more_dump b) (omega (arith, long, short))
              (place_last s.dump more_dump b)
              (slots_before s.dump more_dump b ∙ s.same ∙ sym (ap (λ (n : ℕ). take n (slots_of (s.probe ++ more_probe))) long ∙ slots_front s.probe more_probe)),
          none_below_left ((s.dump ++ b ∷ []) ++ more_dump) (s.probe ++ more_probe) b (length s.dump) rd.dump.rising rp.dump.rising (omega (arith, long, short))
              (place_last s.dump more_dump b)
              (slots_before s.dump more_dump b ∙ s.same ∙ sym (ap (λ (n : ℕ). take n (slots_of (s.probe ++ more_probe))) long ∙ slots_front s.probe more_probe)),
        )
        );
  }

  -- a slot that the probe has alone, behind all of the dump's
  pub decided_behind_dump : (w : Surveyed) (c : Block) → IsSideBySide texts buses d p v → TakesNone d e → TakesBlock p q c → w.roots ≡ v.roots → w.fault ≡ Some (SlotsDiffer c.slot) → IsDecided texts buses e q w
  decided_behind_dump w c s td tp roots noted = record {
    dump = s.dump;
    probe = s.probe ++ c ∷ [];
    dump_taken = taken_end texts.dump_left texts.dump_failures d e s.dump s.dump_read td;
    probe_taken = taken_open texts.probe_left texts.probe_failures q (s.probe ++ c ∷ []) (read_more_text texts.probe_left texts.probe_failures p q s.probe (s.probe ++ c ∷ []) c s.probe_read tp refl);
    roots = roots ∙ s.roots;
    decided = λ more_dump more_probe rd rp. (
        let long = same_length s.dump s.probe s.same in
        let short = ap length (no_more s.dump more_dump (rd.none td.progress)) in
        inr (
          c.slot,
          noted,
          in_right_more (s.dump ++ more_dump) ((s.probe ++ c ∷ []) ++ more_probe) c (length s.probe) rd.dump.rising rp.dump.rising (longer s.probe more_probe c) (omega (arith, long, short))
              (place_last s.probe more_probe c)
              (sym (ap (λ (n : ℕ). take n (slots_of (s.dump ++ more_dump))) long) ∙ slots_front s.dump more_dump ∙ s.same ∙ sym (slots_before s.probe more_probe c)),
          none_below_right (s.dump ++ more_dump) ((s.probe ++ c ∷ []) ++ more_probe) c (length s.probe) rd.dump.rising rp.dump.rising (omega (arith, long, short))
              (place_last s.probe more_probe c)
              (sym (ap (λ (n : ℕ). take n (slots_of (s.dump ++ more_dump))) long) ∙ slots_front s.dump more_dump ∙ s.same ∙ sym (slots_before s.probe more_probe c)),
        )
        );
  }

  -- two slots that differ
  pub decided_apart : (w : Surveyed) (b c : Block) → IsSideBySide texts buses d p v → TakesBlock d e b → TakesBlock p q c → IsTakenBySurvey v w b c false → IsDecided texts buses e q w
  decided_apart w b c s td tp noted = record {
    dump = s.dump ++ b ∷ [];
    probe = s.probe ++ c ∷ [];
    dump_taken = taken_open texts.dump_left texts.dump_failures e (s.dump ++ b ∷ []) (read_more_text texts.dump_left texts.dump_failures d e s.dump (s.dump ++ b ∷ []) b s.dump_read td refl);
    probe_taken = taken_open texts.probe_left texts.probe_failures q (s.probe ++ c ∷ []) (read_more_text texts.probe_left texts.probe_failures p q s.probe (s.probe ++ c ∷ []) c s.probe_read tp refl);
    roots = noted.0 ∙ s.roots;
    decided = λ more_dump more_probe rd rp. (
        let long = same_length s.dump s.probe s.same in
        let ds = (s.dump ++ b ∷ []) ++ more_dump in
        let ps = (s.probe ++ c ∷ []) ++ more_probe in
        let before : take (length s.dump) (slots_of ds) ≡ take (length s.dump) (slots_of ps) =
        slots_before s.dump more_dump b ∙ s.same ∙ sym (ap (λ (n : ℕ). take n (slots_of ps)) long ∙ slots_before s.probe more_probe c) in
        let more = longer s.probe more_probe c in
        let place : c ≡ get_or ps (length s.dump) c = place_last s.probe more_probe c ∙ ap (λ (n : ℕ). get_or ps n c) (sym long) in
        elim noted.1 [
          | inl (less, is) ↦ inr (
            b.slot,
            is,
            in_left ds ps b c (length s.dump) rd.dump.rising rp.dump.rising (longer s.dump more_dump b) (omega (arith, long, more)) (place_last s.dump more_dump b) place before less,
            none_below_both ds ps b c b.slot (length s.dump) rd.dump.rising rp.dump.rising (longer s.dump more_dump b) (omega (arith, long, more)) (place_last s.dump more_dump b) place before
                (omega arith) (omega (arith, less)),
          )
          | inr (less, is) ↦ inr (
            c.slot,
            is,
            in_right ds ps b c (length s.dump) rd.dump.rising rp.dump.rising (longer s.dump more_dump b) (omega (arith, long, more)) (place_last s.dump more_dump b) place before less,
            none_below_both ds ps b c c.slot (length s.dump) rd.dump.rising rp.dump.rising (longer s.dump more_dump b) (omega (arith, long, more)) (place_last s.dump more_dump b) place before
                (omega (arith, less)) (omega arith),
          )
        ]
        );
  }

-- two blocks
pub two_blocks : {E : Type 0} (r : Result Bool E) (d e p q : State) (v w : Surveyed) (b c : Block) → IfOk r (λ same. IsTakenBySurvey v w b c same) → TakesBlock d e b → TakesBlock p q c
    → IfOk r (λ taken. (texts : Texts) (buses : List ℕ) → IsSideBySide texts buses d p v → IsBesideOrDecided taken texts buses e q w)
two_blocks (Ok true) d e p q v w b c is td tp = λ texts buses s. beside_more texts buses d e p q v w b c s td tp is.0 is.1
two_blocks (Ok false) d e p q v w b c is td tp = λ texts buses s. decided_apart texts buses d e p q v w b c s td tp is
two_blocks (Err x) d e p q v w b c is td tp = tt

-- ---- from the first byte to the last

-- nothing was read of a text
abbrev pub fresh : Ahead
fresh = record { held = []; drained = false; count = 0; last = None; progress = stages.Open }

nothing_taken : (left : Option (List ℕ)) → Consumes left (prepend_known [] left) []
nothing_taken None = tt
nothing_taken (Some bytes) = refl

read_nothing : (left : Option (List ℕ)) (failures : ℕ) → IsRead left failures (state_of fresh left failures) []
read_nothing left failures = record {
  dump = record { each = All-nil IsBlock; rising = (λ k below. absurd (let no : ⊥ = omega (arith, below) in no)); room = omega arith };
  text = nothing_taken left;
  count = refl;
  last = refl;
  going = refl;
  fine = refl;
}

pub beside_first : (texts : Texts) (buses : List ℕ) (d p : Ahead) (v : Surveyed) → d ≡ fresh → p ≡ fresh → v ≡ record { roots = buses; records = []; fault = None; last = None } → IsSurveyOf v []
    → IsSideBySide texts buses (state_of d texts.dump_left texts.dump_failures) (state_of p texts.probe_left texts.probe_failures) v
beside_first texts buses d p v hd hp is taken = record {
  dump = [];
  probe = [];
  dump_read = subst (λ (a : Ahead). IsRead texts.dump_left texts.dump_failures (state_of a texts.dump_left texts.dump_failures) []) (sym hd) (read_nothing texts.dump_left texts.dump_failures);
  probe_read = subst (λ (a : Ahead). IsRead texts.probe_left texts.probe_failures (state_of a texts.probe_left texts.probe_failures) []) (sym hp) (read_nothing texts.probe_left texts.probe_failures);
  same = refl;
  taken = taken;
  no_30 = subst IsOpen (sym is) tt;
  roots = ap (λ (x : Surveyed). x.roots) is;
  last = ap (λ (x : Surveyed). x.last) is ∙ sym (ap (λ (a : Ahead). a.last) hd);
}

-- what is left of both is read
pub survey_of_texts : (texts : Texts) (buses : List ℕ) (d p : State) (v : Surveyed) (s : IsDecided texts buses d p v)
    → (more_dump more_probe : List Block) → IsRest d s.dump more_dump → IsDumpOf texts.dump_left (s.dump ++ more_dump) → IsRest p s.probe more_probe → IsDumpOf texts.probe_left (s.probe ++ more_probe)
    → IsSurveyOfTexts buses texts.dump_left texts.probe_left v
survey_of_texts texts buses d p v s more_dump more_probe rd dump_is rp probe_is = record {
  dump = s.dump ++ more_dump;
  probe = s.probe ++ more_probe;
  dump_is = rd.dump;
  probe_is = rp.dump;
  dump_text = dump_is;
  probe_text = probe_is;
  roots = s.roots;
  both = s.decided more_dump more_probe rd rp;
}
