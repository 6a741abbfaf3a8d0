-- What gets to a bus, along the way and in each system.
use Rattle.std.proofs.Common.{◌≡◌, ℕ, ◌+◌, ◌<◌, ◌≤◌, List, [], length, get_or, take, arith, subst, sym, ◌∙◌, ap}
use Rattle.std.specs.Prelude.{IsTrue}
use Rattle.std.specs.List.{All, Contains, list_all}
use Rattle.std.proofs.lemmas.List.{take_all}
use Rattle.std.proofs.lemmas.List.Elements.{All-more}
use Rattle.pci_spec.specs.Slot.{Slot, slot_number}
use Rattle.pci_spec.specs.System.{System, Function, IsAddress}
use Rattle.pci_spec.proofs.Members.{in_map_from}
use Rattle.pci_base.specs.declared.range.Range.{Range}
use Rattle.pci_function.specs.declared.record.Record.{Record}
use Rattle.pci_tree.specs.Outline.{RiseBySlot, IsPathTo}
use Rattle.pci_tree.specs.Ranges.{Covers}
use Rattle.pci_tree.specs.Ways.{slots_of}
use Rattle.pci_tree.proofs.Lifting.{Has, one_by_number}
use Rattle.judge_spec.specs.Given.{Given, starts}
use Rattle.pci_claims.specs.declared.passed.Through.{Through}
use Rattle.pci_claims.specs.Passed.{through_space, lets, IsLetOn}
use Rattle.pci_claims.specs.Sent.{IsSentTo}
use Rattle.pci_claims.specs.Outside.{IsRootOfPath}
use Rattle.pci_claims.specs.Reached.{LetsAt, IsReachAlong, AreReached, lets_by, GetsThrough}
use Rattle.pci_claims.proofs.Outsides.{root_of}
use Rattle.pci_claims.proofs.Walking.{all_before, all_here, way_lets}

-- ---- along the way

module _ (given : Given) (through : Through) (records : List Record) (root : ℕ) where
  pub reach_sent : (out : List Range) → IsSentTo given (through_space through) root out → IsReachAlong given through records root [] out
  reach_sent out is = record {
    canonical = is.canonical;
    exact = λ a. (
      λ (h : Covers out a). (let sent = (is.exact a).0 h in (sent.0, sent.1, λ k d less. absurd (omega (arith, less)))),
      λ (h : IsAddress (through_space through) a × IsTrue (starts given (through_space through) root a) × All (LetsAt given through records a) []). (is.exact a).1 (h.0, h.1),
    );
  }

  pub reach_more : (path : List Slot) (i : ℕ) (slot : Slot) (r : Record) (above out : List Range) → RiseBySlot records → i < length path → slot ≡ get_or path i slot → Contains records r → r.slot ≡ slot
      → IsReachAlong given through records root (take i path) above → IsLetOn given through above r out → IsReachAlong given through records root (take (i + 1) path) out
  reach_more path i slot r above out rise within at has named before is = record {
    canonical = is.canonical;
    exact = λ a. (
      λ (h : Covers out a). (
          let both : Covers above a × IsTrue (lets given through a r) = (is.exact a).0 h in
          let gets = (before.exact a).0 both.0 in (
            gets.0,
            gets.1,
            All-more (LetsAt given through records a) path i slot within gets.2 (subst (LetsAt given through records a) at (λ q in_q same.
                subst (λ (x : Record). IsTrue (lets given through a x))
                (one_by_number (λ (x : Record). slot_number x.slot) records r q rise has in_q (ap slot_number (named ∙ sym same))) both.1)),
          )),
      λ (h : IsAddress (through_space through) a × IsTrue (starts given (through_space through) root a) × All (LetsAt given through records a) (take (i + 1) path)). (is.exact a).1 (
        (before.exact a).1 (h.0, h.1, all_before (LetsAt given through records a) path i within h.2),
        all_here (LetsAt given through records a) path i slot within at h.2 r has named,
      ),
    );
  }

  -- no bridge has the slot
  pub reach_past : (path : List Slot) (i : ℕ) (slot : Slot) (out : List Range) → i < length path → slot ≡ get_or path i slot → (Contains (slots_of records) slot → ⊥)
      → IsReachAlong given through records root (take i path) out → IsReachAlong given through records root (take (i + 1) path) out
  reach_past path i slot out within at none before = record {
    canonical = before.canonical;
    exact = λ a. (
      λ (h : Covers out a). (
          let gets = (before.exact a).0 h in (
            gets.0,
            gets.1,
            All-more (LetsAt given through records a) path i slot within gets.2
                (subst (LetsAt given through records a) at (λ q in_q same. absurd (none (subst (Contains (slots_of records)) same (in_map_from (λ (x : Record). x.slot) records q in_q))))),
          )),
      λ (h : IsAddress (through_space through) a × IsTrue (starts given (through_space through) root a) × All (LetsAt given through records a) (take (i + 1) path)).
          (before.exact a).1 (h.0, h.1, all_before (LetsAt given through records a) path i within h.2),
    );
  }

  pub reach_whole : (path : List Slot) (n : ℕ) (out : List Range) → length path ≤ n → IsReachAlong given through records root (take n path) out → IsReachAlong given through records root path out
  reach_whole path n out end is = subst (λ slots. IsReachAlong given through records root slots out) (take_all n path end) is

-- ---- in a system

pub reach_with : (given : Given) (through : Through) (roots : List ℕ) (s : System) (rs : List Record) (path : List Slot) (bus root : ℕ) (out : List Range) → Has s rs → RiseBySlot rs
    → IsPathTo roots s path bus → IsRootOfPath path bus root → IsReachAlong given through rs root path out → AreReached (through_space through) (λ a. GetsThrough given roots s through a bus) out
reach_with given through roots s rs path bus root out is rise way at reach =
    let here : way.root ≡ root = root_of s way.root way.bridges bus path root way.leads way.named at in record {
      canonical = reach.canonical;
      exact = λ a. (
        λ (h : Covers out a). (
            let gets = (reach.exact a).0 h in (
              gets.0,
              (
                way.root,
                way.starts,
                subst (λ n. IsTrue (starts given (through_space through) n a)) (sym here) gets.1,
                way.bridges,
                way.leads,
                (way_lets given through s rs is rise a way.root way.bridges bus way.leads).0 (subst (All (LetsAt given through rs a)) (sym way.named) gets.2),
              ),
            )),
        λ (h : IsAddress (through_space through) a × GetsThrough given roots s through a bus). (
            let (address, (from, in_roots, sent, bridges, leads, pass)) = h in
            let only : (from ≡ way.root) × (bridges ≡ way.bridges) = way.only from bridges in_roots leads in
            (reach.exact a).1 (
              address,
              subst (λ n. IsTrue (starts given (through_space through) n a)) (only.0 ∙ here) sent,
              subst (All (LetsAt given through rs a)) way.named ((way_lets given through s rs is rise a way.root way.bridges bus way.leads).1
                  (subst (λ (bs : List Function). IsTrue (list_all (lets_by given through a) bs)) only.1 pass)),
            )),
      );
    }
