-- Messages in another order, or more than once.
use Rattle.decl.specs.Declaration.{follows_of}
use Rattle.std.proofs.Common.{List, [], map, Contains, inl}
use Rattle.problem_model.specs.declared.items.Message.{Message}
use Rattle.sync_graph.specs.Graph.{GraphLists}
use Rattle.roster.specs.Roster.{RosterLists}
use Rattle.roster.specs.Entered.{all_events}
use Rattle.roster.specs.Rosters.{named_event}
use Rattle.session_graph.specs.Kept.{IsGrownBy}
use Rattle.session_graph.proofs.Messages.{with_messages}

-- two lists have the same messages
pub record AreAlike (some others : List Message) : Type 0 where
  pub forth : (m : Message) → Contains some m → Contains others m
  pub back : (m : Message) → Contains others m → Contains some m

pub grown_alike : (r : RosterLists) (some others : List Message) (g : GraphLists) → AreAlike some others → IsGrownBy r some g → IsGrownBy r others g
grown_alike r some others g alike is = record {
  grown = with_messages r.declaration.clocks (follows_of r.declaration) (map (named_event r.declaration) r.came) some others [] alike.forth (λ m has. inl (alike.back m has)) all_events g is.grown;
  once = is.once;
  knows = is.knows;
  tells = record {
    each = λ m has. is.tells.each m (alike.back m has);
    only = λ v e p at partner. (let (m, has, send, receive) = is.tells.only v e p at partner in (m, alike.forth m has, send, receive));
  };
}
