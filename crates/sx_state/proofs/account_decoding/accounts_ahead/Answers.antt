use Rattle.std.proofs.lemmas.Result.{IfOk-weaker}
use Rattle.sx_state.proofs.SoundAccounts.{accounts_listed}
use Rattle.sx_state.proofs.account_decoding.accounts_ahead.Goals as goal

pub returns : goal.returns
returns g c =
    IfOk-weaker c.accounts_by.result _ _ (λ read decoded.
    accounts_listed c.args.payload.now c.in_ok-from.from c.field_u32.new.self c.args.version c.args.assets
    c.in_ok-count.field-0 c.place-place.result c.args.begin read.1 read.0.items c.in_ok-from.ensures.reader
    c.in_ok-count.ensures.exact c.in_ok-count.ensures.same c.place-place.ensures.place decoded) c.accounts_by.ensures
