-- Transitions that may happen, one after the other, lead from a system to another.
use Rattle.std.proofs.Common.{◌≡◌, ℕ, List, [], ◌∷◌, ◌++◌, refl, ap, sym, ◌∙◌, subst}
use Rattle.spec_node.specs.Node as nodes
use Rattle.spec_transitions.specs.Systems as systems
use Rattle.spec_transitions.specs.Transitions as transitions
use Rattle.law_refinement.proofs.Members.{node_same}

pub record Fragment (s a : systems.System) : Type 0 where
  pub list : List transitions.Transition
  pub may : transitions.AllMay s list
  pub ends : transitions.after_transitions s list ≡ a

pub nothing : (s : systems.System) → Fragment s s
nothing s = record { list = []; may = tt; ends = refl }

pub once : (s : systems.System) (t : transitions.Transition) → transitions.May s t → Fragment s (transitions.after_transition s t)
once s t may = record { list = t ∷ []; may = (may, tt); ends = refl }

pub may_append : (s : systems.System) (ts us : List transitions.Transition) → transitions.AllMay s ts → transitions.AllMay (transitions.after_transitions s ts) us → transitions.AllMay s (ts ++ us)
may_append s [] us a b = b
may_append s (t ∷ ts) us a b = (a.0, may_append (transitions.after_transition s t) ts us a.1 b)

pub after_append : (s : systems.System) (ts us : List transitions.Transition) → transitions.after_transitions s (ts ++ us) ≡ transitions.after_transitions (transitions.after_transitions s ts) us
after_append s [] us = refl
after_append s (t ∷ ts) us = after_append (transitions.after_transition s t) ts us

pub joined : (s a b : systems.System) → Fragment s a → Fragment a b → Fragment s b
joined s a b l m = record {
  list = l.list ++ m.list;
  may = may_append s l.list m.list l.may (subst (λ x. transitions.AllMay x m.list) (sym l.ends) m.may);
  ends = after_append s l.list m.list ∙ (ap (λ x. transitions.after_transitions x m.list) l.ends ∙ m.ends);
}

pub at_end : (s a b : systems.System) → a ≡ b → Fragment s a → Fragment s b
at_end s a b e l = record { list = l.list; may = l.may; ends = l.ends ∙ e }

-- of one node alone
abbrev pub Becomes : systems.System → ℕ → nodes.Node → Type 0
Becomes s j m = Fragment s (systems.with_node s j m)

pub stays : (s : systems.System) (j : ℕ) (n : nodes.Node) → systems.IsUp s j n → Becomes s j n
stays s j n up = at_end s s (systems.with_node s j n) (sym (node_same s j n up)) (nothing s)
