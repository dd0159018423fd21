-- One more call on a chain, and the promise of a chain that begins with a format.
use Rattle.std.proofs.Common.{◌≡◌, ℕ, Bool, true, List, [], ◌∷◌, ◌++◌, Ok, Err, Result, sym, ap, ◌∙◌, subst}
use Rattle.std.proofs.lemmas.List.{map-append}
use Rattle.device.specs.Power.{ReadAnswer, WriteAnswer}
use Rattle.device.specs.declared.Block.{Block}
use Rattle.device.specs.declared.DeviceFault.{DeviceFault}
use Rattle.device.specs.declared.DeviceFault.TheVariants.{Refused as access_refused}
use Rattle.schema.specs.Nodes.{nodes}
use Rattle.schema.specs.declared.typed.Schema.{Schema}
use Rattle.schema.specs.declared.typed.SchemaFault.{SchemaFault}
use Rattle.config.specs.Images.{image}
use Rattle.config.specs.Lawful.{Lawful}
use Rattle.config.specs.declared.entry.Entry.{Entry}
use Rattle.validate.specs.declared.broken.Broken.{Broken}
use Rattle.calls.specs.declared.call.Answer.{Answer}
use Rattle.calls.specs.declared.call.Answer.TheVariants.{Done}
use Rattle.calls.specs.declared.call.Call.{Call}
use Rattle.engine.specs.Performing.{FormattedBy, Performs}
use Rattle.engine.specs.Seen.{device_of, schema_of, seen, validator_of}
use Rattle.engine.specs.declared.engine.Engine.{Engine}
use Rattle.model.proofs.Keeping.{keeps, lawful_schema, starts}
use Rattle.model.proofs.Promising.{all_push, follows_push, left_push, promised, reached_push}
use Rattle.model.specs.Acts.{Acts, Formatting}
use Rattle.model.specs.Link.{Agrees, Linked, Tied}
use Rattle.model.specs.Model.{Model, fresh}
use Rattle.model.specs.Rules.{Asks}
use Rattle.model.specs.Promise.{Point, Promise, ShowsModel, reached}
use Rattle.run.specs.Ran.{Chain, Points}

-- an engine that agrees with a model shows it
shows : (x m : Model) → Agrees x m → ShowsModel x m
shows x m a =
    record {
      on_is = ap (λ (y : Model). y.on) a.same;
      running_is = ap (λ (y : Model). y.running) a.same;
      candidate_is = ap (λ (y : Model). y.candidate) a.same;
      held_is = ap (λ (y : Model). y.held) a.same;
      trial_is = ap (λ (y : Model). y.trial) a.same;
      standing_is = λ on. ap (λ (y : Model). y.standing) a.same ∙ a.knows on;
    }

module _ {D V : Type 0} (blocks : D → List Block) (powered : D → Bool) (raises : D → D → Type 0) (reads : D → ℕ → Result Block DeviceFault → D → Type 0) (writes : D → ℕ → List ℕ → Result Unit DeviceFault → D → Type 0) (verdict : V → List Entry → Result Unit Broken)
    (rule-u : (d e : D) → raises d e → (blocks e ≡ blocks d) × (powered e ≡ true))
    (rule-r : (d e : D) (at : ℕ) (r : Result Block DeviceFault) → reads d at r e → ReadAnswer (blocks d) (powered d) at r (blocks e) (powered e))
    (rule-w : (d e : D) (at : ℕ) (bytes : List ℕ) (r : Result Unit DeviceFault) → writes d at bytes r e → WriteAnswer (blocks d) (powered d) at bytes r (blocks e) (powered e))
    (un-r : (d e : D) (at : ℕ) → reads d at (Err access_refused) e → e ≡ d) (un-w : (d e : D) (at : ℕ) (bytes : List ℕ) → writes d at bytes (Err access_refused) e → e ≡ d) where
  abbrev A : Result Schema SchemaFault → V → Model → D → Call → Answer → Model → D → Type 0
  A schema v x d c a x' d' = Acts blocks powered raises reads writes schema (verdict v) x d c a x' d'

  abbrev C : Engine D V → List Call → List Answer → Engine D V → Type 0
  C = Chain blocks powered raises reads writes verdict

  pub chain_push : (e₀ e : Engine D V) (calls : List Call) (answers : List Answer) (c : Call) (a : Answer) (e' : Engine D V) → validator_of e ≡ validator_of e₀ → schema_of e ≡ schema_of e₀ → C e₀ calls answers e → Performs blocks powered raises reads writes verdict e c a e' → C e₀ (calls ++ c ∷ []) (answers ++ a ∷ []) e'
  chain_push e₀ e calls answers c a e' ve se chain p s m is tied₀ =
      let v = verdict (validator_of e₀) in
      let was = chain s m is tied₀ in
      let ps = was.points in
      let d₀ = device_of e₀ in
      let acts₁ = subst (λ (sc : Result Schema SchemaFault). A sc (validator_of e) (seen powered e) (device_of e) c a (seen powered e') (device_of e')) (se ∙ is) p.acts in
      let acts₂ = subst (λ (w : V). A (Ok s) w (seen powered e) (device_of e) c a (seen powered e') (device_of e')) ve acts₁ in
      let goes = keeps rule-u rule-r rule-w un-r un-w s v (seen powered e) (reached m ps) (device_of e) c a (seen powered e') (device_of e') was.tied acts₂ in
      let point : Point D = record { call = c; answer = a; next = goes.0; device = device_of e' } in
      record {
        points = ps ++ point ∷ [];
        calls_are = map-append (λ (q : Point D). q.call) ps (point ∷ []) ∙ ap (λ (cs : List Call). cs ++ c ∷ []) was.calls_are;
        answers_are = map-append (λ (q : Point D). q.answer) ps (point ∷ []) ∙ ap (λ (cs : List Answer). cs ++ a ∷ []) was.answers_are;
        follows = follows_push blocks powered raises reads writes (nodes s) v point was.follows goes.1 (subst (λ (d : D). Asks blocks raises reads writes v (reached m ps) c a d (device_of e')) (sym was.device_is) goes.2);
        everywhere = all_push blocks powered raises reads writes (nodes s) v (Linked blocks powered (nodes s) v) m d₀ ps point was.everywhere goes.3.linked;
        device_is = left_push blocks powered raises reads writes (nodes s) v d₀ ps point;
        tied = subst (λ (y : Model). Tied blocks powered (nodes s) v (seen powered e') y (device_of e')) (sym (reached_push blocks powered raises reads writes (nodes s) v m ps point)) goes.3;
      }

  -- what a format that is done gives
  pub record Begun (e : Engine D V) (bytes : List ℕ) (e' : Engine D V) : Type 0 where
    pub schema : Schema
    pub schema_is : schema_of e ≡ Ok schema
    pub entries : List Entry
    pub lawful : Lawful (nodes schema) entries
    pub image_is : bytes ≡ image entries
    pub started : seen powered e' ≡ fresh entries
    pub tied : Tied blocks powered (nodes schema) (verdict (validator_of e')) (seen powered e') (fresh entries) (device_of e')

  pub begun : (e : Engine D V) (bytes : List ℕ) (e' : Engine D V) → FormattedBy blocks powered raises reads writes verdict e bytes Done e' → Begun e bytes e'
  begun e bytes e' f =
      let v = verdict (validator_of e) in
      let l = lawful_schema blocks powered raises reads writes (schema_of e) v bytes (seen powered e) (device_of e) (seen powered e') (device_of e') f.formats in
      let f' = subst (λ (sc : Result Schema SchemaFault). Formatting blocks powered raises reads writes sc v bytes (seen powered e) (device_of e) Done (seen powered e') (device_of e')) l.1 f.formats in
      let r = starts rule-u rule-r rule-w un-r un-w l.0 v bytes (seen powered e) (device_of e) (seen powered e') (device_of e') f' in
      record {
        schema = l.0;
        schema_is = l.1;
        entries = r.0;
        lawful = r.1;
        image_is = r.2;
        started = r.3;
        tied = subst (λ (w : V). Tied blocks powered (nodes l.0) (verdict w) (seen powered e') (fresh r.0) (device_of e')) (sym f.validator) r.4;
      }

  pub promise_of : (v : V) (s : Schema) (es : List Entry) (e : Engine D V) (calls : List Call) (answers : List Answer) (e' : Engine D V) → validator_of e ≡ v → Points blocks powered raises reads writes verdict s (fresh es) e calls answers e' → Promise blocks powered raises reads writes (nodes s) (verdict v) es (device_of e) calls answers (seen powered e') (device_of e')
  promise_of v s es e calls answers e' ve p =
      let q =
      promised blocks powered raises reads writes (nodes s) (verdict (validator_of e)) es (device_of e) calls answers (seen powered e') (device_of e') p.points p.calls_are p.answers_are p.follows p.device_is (shows (seen powered e') (reached (fresh es) p.points) p.tied.agrees) p.everywhere in
      subst (λ (w : V). Promise blocks powered raises reads writes (nodes s) (verdict w) es (device_of e) calls answers (seen powered e') (device_of e')) ve q
