-- An instruction that was decoded.
use Rattle.std.proofs.Common.{◌≡◌, subst}
use Rattle.meaning.specs.Hosts.{Sink}
use Rattle.program.specs.Program.{Instr}
use Rattle.decoder.specs.Decoding.{decoded_instr}
use Rattle.decoder.specs.declared.decoded.Decoded.{Decoded}
use Rattle.render.specs.Executing.{IfAny}
use Rattle.render.specs.States.{Given, Goes}
use Rattle.render.specs.declared.state.RenderState.{RenderState}

module _ {K : Type 0} (sink : Sink) (state : K → sink.State) (g : Given) (s : RenderState K) where
  -- which one it is
  pub goes_at : (d e : Decoded) → d ≡ e → IfAny (decoded_instr d) (λ (i : Instr). Goes sink state g i s) → IfAny (decoded_instr e) (λ (i : Instr). Goes sink state g i s)
  goes_at d e same goes = subst (λ (x : Decoded). IfAny (decoded_instr x) (λ (i : Instr). Goes sink state g i s)) same goes
