use Rattle.std.proofs.Common.{◌≡◌, length, map, string_bytes, refl, sym, ◌∙◌, subst, inr, arith}
use Rattle.std.proofs.lemmas.Bool.{eqb-true}
use Rattle.pci_here.specs.Places.{AreDomainsIn}
use Rattle.pci_here.proofs.Named.{domains_once, domains_rise, none_named}
use Rattle.pci_here.proofs.Read.{shown_then}
use Rattle.pci_here.proofs.domain.domains_of.Goals as goal

pub returns : goal.returns
returns g c =
    shown_then (g.M.Machine.shown c.args.machine.now) _ _ (λ m told. record {
      names = map string_bytes c.in_ok-names.names.items;
      are_names = told;
      each = domains_once (map string_bytes c.in_ok-names.names.items) c.in_ok-domains.domains.items c.sort_unstable.new.self.items c.dedup.new.self.items
          c.sort_unstable.ensures.permutation c.dedup.ensures.filtered
          (subst (λ names. AreDomainsIn (map string_bytes names) c.in_ok-domains.domains.items) c.as_slice.ensures.value c.in_ok-domains.ensures);
      rising = domains_rise c.sort_unstable.new.self.items c.dedup.new.self.items c.sort_unstable.ensures.sorted c.dedup.ensures.filtered;
    }) c.in_ok-names.ensures

pub returns-then-is_empty : goal.returns-then-is_empty
returns-then-is_empty g c =
    let zero : c.in_ok-domains.domains.len ≡ 0 = eqb-true c.in_ok-domains.domains.len 0 (sym c.is_empty.ensures ∙ c.if-is_empty.true) in
    let long = c.in_ok-domains.domains.ok.0 in
    let none : length c.in_ok-domains.domains.items ≡ 0 = omega (arith, long, zero) in
    shown_then (g.M.Machine.shown c.args.machine.now) _ _ (λ m told. inr (
      refl,
      map string_bytes c.in_ok-names.names.items,
      told,
      none_named (map string_bytes c.in_ok-names.names.items) c.in_ok-domains.domains.items
          (subst (λ names. AreDomainsIn (map string_bytes names) c.in_ok-domains.domains.items) c.as_slice.ensures.value c.in_ok-domains.ensures) none,
    )) c.in_ok-names.ensures
