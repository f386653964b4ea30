-- Records: bytes are split into them in one way.
use Rattle.std.proofs.Common.{◌≡◌, ◌+◌, ℕ, List, [], ◌∷◌, ◌++◌, length, take, drop, All, refl, sym, ap, subst, ◌∙◌, arith, append_assoc, length-append}
use Rattle.std.specs.List.{flat_map}
use Rattle.std.proofs.lemmas.List.{length-drop, drop-append-le, take-append-le}
use Rattle.std.proofs.lemmas.List.Elements.{All-head, All-tail}
use Rattle.pcap_stream.specs.declared.header.Order.{Order}
use Rattle.pcap_stream.specs.declared.header.Header.{Header}
use Rattle.pcap_stream.specs.Capture.{Record, BeginsHeader, IsRecord, HasRecord, HasSecondHeader, HasTooLong, bytes_of, captured_length, number_in}
use Rattle.pcap_stream.proofs.Lists.{same_front, same_rest}
use Rattle.pcap_stream.proofs.Headers.{number-append}

abbrev record_with : List ℕ → List ℕ → Record
record_with head captured = record { head = head; captured = captured }

record_same : {A B C : Type 0} (f : A → B → C) (a a' : A) (b b' : B) → a ≡ a' → b ≡ b' → f a b ≡ f a' b'
record_same f a a' b b' p q = cc

-- two records that begin the same bytes are one
record_one : (h : Header) (r q : Record) (x y : List ℕ) → IsRecord h r → IsRecord h q → bytes_of r ++ x ≡ bytes_of q ++ y → (r ≡ q) × (x ≡ y)
record_one h r q x y a b e =
    let whole : r.head ++ (r.captured ++ x) ≡ q.head ++ (q.captured ++ y) = sym (append_assoc r.head r.captured x) ∙ e ∙ append_assoc q.head q.captured y in
    let sizes : length r.head ≡ length q.head = a.size ∙ sym b.size in
    let heads : r.head ≡ q.head = same_front r.head q.head _ _ sizes whole in
    let rests : r.captured ++ x ≡ q.captured ++ y = same_rest r.head q.head _ _ sizes whole in
    let lengths : length r.captured ≡ length q.captured = sym a.length_said ∙ ap (λ (l : List ℕ). captured_length h.order l) heads ∙ b.length_said in
    let captured : r.captured ≡ q.captured = same_front r.captured q.captured x y lengths rests in
    (record_same record_with r.head q.head r.captured q.captured heads captured, same_rest r.captured q.captured x y lengths rests)

-- where no whole record begins what is left at last, the records before are a front of all
pub record More (h : Header) (a b : List Record) (x y : List ℕ) : Type 0 where
  pub more : List Record
  pub lawful : All (IsRecord h) more
  pub records : b ≡ a ++ more
  pub rest : x ≡ flat_map bytes_of more ++ y

pub records_go_on : (h : Header) (a b : List Record) (x y : List ℕ) → All (IsRecord h) a → All (IsRecord h) b →
    flat_map bytes_of a ++ x ≡ flat_map bytes_of b ++ y → (HasRecord h y → ⊥) → More h a b x y
records_go_on h [] b x y left right e none = record { more = b; lawful = right; records = refl; rest = e }
records_go_on h (r ∷ a) [] x y left right e none =
    absurd (none (r, flat_map bytes_of a ++ x, All-head (IsRecord h) r a left, sym e ∙ append_assoc (bytes_of r) (flat_map bytes_of a) x))
records_go_on h (r ∷ a) (q ∷ b) x y left right e none =
    let whole : bytes_of r ++ (flat_map bytes_of a ++ x) ≡ bytes_of q ++ (flat_map bytes_of b ++ y) =
    sym (append_assoc (bytes_of r) (flat_map bytes_of a) x) ∙ e ∙ append_assoc (bytes_of q) (flat_map bytes_of b) y in
    let one = record_one h r q _ _ (All-head (IsRecord h) r a left) (All-head (IsRecord h) q b right) whole in
    let rest = records_go_on h a b x y (All-tail (IsRecord h) r a left) (All-tail (IsRecord h) q b right) one.1 none in
    let same : q ≡ r = sym one.0 in
    record { more = rest.more; lawful = rest.lawful; records = joined q r b (a ++ rest.more) same rest.records; rest = rest.rest }
  where
    joined : (q r : Record) (b c : List Record) → q ≡ r → b ≡ c → q ∷ b ≡ r ∷ c
    joined q r b c e f = cc

-- no record more
pub nothing_more : (h : Header) (more : List Record) (x y : List ℕ) → All (IsRecord h) more → x ≡ flat_map bytes_of more ++ y → (HasRecord h x → ⊥) → more ≡ []
nothing_more h [] x y lawful e none = refl
nothing_more h (r ∷ more) x y lawful e none =
    absurd (none (r, flat_map bytes_of more ++ y, All-head (IsRecord h) r more lawful, e ∙ append_assoc (bytes_of r) (flat_map bytes_of more) y))

-- what a record's bytes say of its length, they say whatever comes behind
pub captured-append : (o : Order) (r : Record) (after : List ℕ) → length r.head ≡ 16 → captured_length o (bytes_of r ++ after) ≡ captured_length o r.head
captured-append o r after size =
    let joined : bytes_of r ++ after ≡ r.head ++ (r.captured ++ after) = append_assoc r.head r.captured after in
    let dropped : drop 8 (r.head ++ (r.captured ++ after)) ≡ drop 8 r.head ++ (r.captured ++ after) = drop-append-le 8 r.head (r.captured ++ after) (omega (arith, size)) in
    ap (λ (l : List ℕ). captured_length o l) joined ∙ ap (λ (l : List ℕ). number_in o 4 l) dropped
    ∙ number-append o 4 (drop 8 r.head) (r.captured ++ after) (omega (arith, size, length-drop 8 r.head))

-- the first bytes of a record are those of its head, whatever comes behind
begins-append : (h : Header) (r : Record) (after : List ℕ) → length r.head ≡ 16 → BeginsHeader h (bytes_of r ++ after) → BeginsHeader h r.head
begins-append h r after size begins =
    let joined : bytes_of r ++ after ≡ r.head ++ (r.captured ++ after) = append_assoc r.head r.captured after in
    let first : take 8 (r.head ++ (r.captured ++ after)) ≡ take 8 r.head = take-append-le 8 r.head (r.captured ++ after) (omega (arith, size)) in
    sym (ap (λ (l : List ℕ). take 8 l) joined ∙ first) ∙ begins

-- no bytes begin both with a record and with one that is too long, or with a second header
pub not_both : (h : Header) (bytes : List ℕ) → HasTooLong h bytes → HasRecord h bytes → ⊥
not_both h bytes long has =
    let r : Record = has.0 in
    let is : IsRecord h r = has.2 in
    let said : captured_length h.order bytes ≡ length r.captured = ap (λ (l : List ℕ). captured_length h.order l) has.3 ∙ captured-append h.order r has.1 is.size ∙ is.length_said in
    omega (arith, said, long.1, is.limit)

pub no_record : (h : Header) (bytes : List ℕ) → HasSecondHeader h bytes → HasRecord h bytes → ⊥
no_record h bytes second has =
    let r : Record = has.0 in
    let is : IsRecord h r = has.2 in
    is.other (begins-append h r has.1 is.size (subst (λ (l : List ℕ). BeginsHeader h l) has.3 second.1))

pub record_long : (r : Record) (after : List ℕ) → length (bytes_of r ++ after) ≡ (length r.head + length r.captured) + length after
record_long r after = omega (arith, length-append (r.head ++ r.captured) after, length-append r.head r.captured)
