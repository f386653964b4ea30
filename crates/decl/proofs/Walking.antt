-- A document's parts, one behind the other.
use Rattle.std.proofs.Common.{◌≡◌, ℕ, Bool, List, [], ◌++◌, Option, Some, codes, refl, sym, ap, ◌∙◌, subst}
use Rattle.std.specs.Prelude.{option_and_then}
use Rattle.problem_model.specs.declared.items.Clock.{Clock}
use Rattle.toml.specs.Data.{Items, Members}
use Rattle.decl.specs.Addresses.{none_known}
use Rattle.decl.specs.Causes.{at, first, fault_of_entry, IsFirstOf}
use Rattle.decl.specs.Declaration.{Declaration}
use Rattle.decl.specs.Hosts.{HostLists, host_lists, addresses_from, addresses6_from, hosts_faults}
use Rattle.decl.specs.Labels.{label_subnets, labels_of, labels_faults}
use Rattle.decl.specs.Links.{links_of, links_faults}
use Rattle.decl.specs.Places.{clock_place}
use Rattle.decl.specs.Values.{flag_at, number_at, optional_number, text_at}
use Rattle.decl.specs.Walk.{declared, faults, hosts_in, labels_in, links_in, source_causes, top_causes}
use Rattle.decl.specs.declared.cause.Cause.{Cause}
use Rattle.decl.specs.declared.errors.DeclError.{DeclError}
use Rattle.decl.specs.declared.errors.Section.TheVariants.{Top}
use Rattle.decl.specs.declared.items.Address.{Address}
use Rattle.decl.specs.declared.items.Owner.{Owner}
use Rattle.decl.specs.declared.items.Label.{Label}
use Rattle.decl.specs.declared.items.Link.{Link}
use Rattle.decl.specs.declared.items.Subnet.{Subnet}
use Rattle.decl.proofs.Faults.{fault_at, fault_behind, fault_front}

-- the faults of a document by its parts
abbrev walk : Members → Members → HostLists → Members → Items → List DeclError
walk ms hosts lists labels links = at Top 0 (top_causes ms)
    ++ (hosts_faults 1 none_known [] hosts ++ (labels_faults lists 1 labels ++ (links_faults lists.names 1 [] links ++ at Top 0 (source_causes lists.clocks (text_at (codes "source") ms)))))

walk_is : (ms hosts : Members) (lists : HostLists) (labels : Members) (links : Items) → hosts ≡ hosts_in ms → lists ≡ host_lists hosts → labels ≡ labels_in ms → links ≡ links_in ms
    → walk ms hosts lists labels links ≡ faults ms
walk_is ms hosts lists labels links p n r s = rw (n, p, r, s) refl

-- a fault of the document's own keys is the first
pub top_first : (ms : Members) (cause : Cause) (e : DeclError) → first (top_causes ms) ≡ Some cause → e ≡ fault_of_entry Top 0 cause → IsFirstOf (faults ms) e
top_first ms cause e h placed = fault_front (at Top 0 (top_causes ms)) _ e (fault_at Top 0 (top_causes ms) cause e h placed)

module _ (ms : Members) (top : top_causes ms ≡ []) (hosts : Members) (hosts_are : hosts ≡ hosts_in ms) (sound : hosts_faults 1 none_known [] hosts ≡ []) (lists : HostLists) (lists_are : lists ≡ host_lists hosts)
    (labels : Members) (labels_are : labels ≡ labels_in ms) (labelled : labels_faults lists 1 labels ≡ []) (links : Items) (links_are : links ≡ links_in ms) (linked : links_faults lists.names 1 [] links ≡ []) where
  -- a fault of the source is the first where nothing else is wrong
  pub source_first : (cause : Cause) (e : DeclError) → first (source_causes lists.clocks (text_at (codes "source") ms)) ≡ Some cause → e ≡ fault_of_entry Top 0 cause → IsFirstOf (faults ms) e
  source_first cause e h placed =
      subst (λ (fs : List DeclError). IsFirstOf fs e) (walk_is ms hosts lists labels links hosts_are lists_are labels_are links_are)
      (fault_behind (at Top 0 (top_causes ms)) _ e (ap (at Top 0) top)
      (fault_behind (hosts_faults 1 none_known [] hosts) _ e sound
      (fault_behind (labels_faults lists 1 labels) _ e labelled (fault_behind (links_faults lists.names 1 [] links) _ e linked (fault_at Top 0 _ cause e h placed)))))

  -- nothing is wrong at all
  pub no_faults : source_causes lists.clocks (text_at (codes "source") ms) ≡ [] → faults ms ≡ []
  no_faults none =
      sym (walk_is ms hosts lists labels links hosts_are lists_are labels_are links_are)
      ∙ empty (at Top 0 (top_causes ms)) (hosts_faults 1 none_known [] hosts) (labels_faults lists 1 labels) (links_faults lists.names 1 [] links) _ (ap (at Top 0) top) sound labelled linked (ap (at Top 0) none)
    where
      empty : (a b c d e : List DeclError) → a ≡ [] → b ≡ [] → c ≡ [] → d ≡ [] → e ≡ [] → a ++ (b ++ (c ++ (d ++ e))) ≡ []
      empty a b c d e p q r s t = rw (p, q, r, s, t) refl

-- what is read is what the document declares
pub declared_is : (ms hosts labels : Members) (links : Items) (lists : HostLists) (clocks : List Clock) (owners : List Owner) (addresses : List Address) (addresses6 : List Address) (label_list : List Label) (subnets : List Subnet) (link_list : List Link) (bytes : ℕ) (options fragments : Bool) (window source : Option ℕ)
    → hosts ≡ hosts_in ms → labels ≡ labels_in ms → links ≡ links_in ms → lists ≡ host_lists hosts → clocks ≡ lists.clocks → owners ≡ lists.owners → addresses ≡ addresses_from 0 hosts → addresses6 ≡ addresses6_from 0 hosts → label_list ≡ labels_of lists 0 labels → subnets ≡ label_subnets labels
    → link_list ≡ links_of lists.names links → bytes ≡ number_at (codes "payload_bytes") ms → options ≡ flag_at (codes "tcp_options") ms → fragments ≡ flag_at (codes "fragments") ms → window ≡ optional_number (codes "window") ms → source ≡ option_and_then (clock_place lists.clocks) (text_at (codes "source") ms)
    → (let d : Declaration = record { hosts = lists.names; clocks = clocks; owners = owners; addresses = addresses; addresses6 = addresses6; labels = label_list; subnets = subnets; links = link_list; payload_bytes = bytes; tcp_options = options; fragments = fragments; window = window; source = source } in d) ≡ declared ms
declared_is ms hosts labels links lists clocks owners addresses addresses6 label_list subnets link_list bytes options fragments window source p q r n c o t y u s v w z f i x = rw (c, o, t, y, u, s, v, w, z, f, i, x, n, p, q, r) refl
