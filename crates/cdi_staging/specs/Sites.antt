-- Which bean stands where for an injection point, and where call sites lead.
use Rattle.std.specs.Prelude.{ℕ, Bool, true, false, List, [], length, Option, Some, None, position, slice_get, unwrap_or}
use Rattle.std.specs.Str.{bytes_eq}
use Rattle.cdi_model.specs.declared.decl.BeanDecl.{BeanDecl}
use Rattle.cdi_model.specs.declared.decl.CallDecl.{CallDecl}
use Rattle.cdi_model.specs.declared.decl.Decl.{Decl}
use Rattle.cdi_model.specs.declared.decl.MethodDecl.{MethodDecl}
use Rattle.cdi_model.specs.declared.decl.PointDecl.{PointDecl}
use Rattle.cdi_scene.specs.declared.scene.CallSite.{CallSite}
use Rattle.cdi_scene.specs.declared.scene.Via.{Via}
use Rattle.cdi_scene.specs.declared.scene.Via.TheVariants.{Own, Param}
use Rattle.cdi_effective.specs.Disposers.{find_bean}
use Rattle.cdi_effective.specs.declared.records.BeanId.{BeanId}
use Rattle.cdi_effective.specs.declared.records.Effective.{Effective}
use Rattle.cdi_staging.specs.Positions.{is_told_by}
use Rattle.cdi_resolve.specs.declared.choice.Choice.{Choice}
use Rattle.cdi_resolve.specs.declared.choice.Choice.TheVariants as choices
use Rattle.cdi_staging.specs.declared.target.Target.{Target}
use Rattle.cdi_staging.specs.declared.site.Visible.{Visible}

-- ---- the bean of an injection point

-- the position of a bean in a bean list, or the one behind the last
abbrev pub position_of_bean : List Effective → BeanId → ℕ
position_of_bean list id = unwrap_or (position (is_told_by id) list) (length list)

-- that of the managed bean of a class
abbrev pub position_of_class : List Effective → List ℕ → ℕ
position_of_class list class = position_of_bean list (record { class = class; producer = None })

-- no bean: the position behind the last
abbrev pub nowhere : List Effective → Target
nowhere list = record { bean = length list; class = None }

-- the class of a managed bean, and none of a product
abbrev pub class_with : List ℕ → Option (List ℕ) → Option (List ℕ)
class_with class None = Some class
class_with class (Some producer) = None

abbrev pub managed_class : BeanId → Option (List ℕ)
managed_class id = class_with id.class id.producer

-- the bean that was chosen for an injection point (CDI 4.0, Performing typesafe resolution)
unfoldable pub target_of : List Effective → Choice → Target
target_of list (choices.One id) = record { bean = position_of_bean list id; class = managed_class id }
target_of list choices.Unsatisfied = nowhere list
target_of list (choices.Ambiguous ids) = nowhere list

-- ---- what a body sees

-- the injection points of whoever runs and the parameters of the method that runs, with what is chosen for each, in order
pub record Sight : Type 0 where
  pub points : List PointDecl
  pub targets : List Target
  pub params : List PointDecl
  pub param_targets : List Target

-- what the code shows to a body
abbrev pub sight_in : Visible → Sight
sight_in v = record {
  points = v.points.now;
  targets = v.targets.now;
  params = v.params.now;
  param_targets = v.param_targets.now;
}

-- what a bean's own parts see: its injection points
abbrev pub own_sight : List PointDecl → List Target → Sight
own_sight points targets = record { points = points; targets = targets; params = []; param_targets = [] }

-- what a method with parameters sees: these, and where it is not static the injection points of its bean (profile)
abbrev pub method_sight : Bool → Sight → List PointDecl → List Target → Sight
method_sight true own params targets = record { points = []; targets = []; params = params; param_targets = targets }
method_sight false own params targets = record {
  points = own.points;
  targets = own.targets;
  params = params;
  param_targets = targets;
}

-- ---- call sites

abbrev pub is_method : List ℕ → MethodDecl → Bool
is_method name method = bytes_eq method.name name

-- the position of a method of this name, or the one behind the last
abbrev pub position_of_method : List MethodDecl → List ℕ → ℕ
position_of_method methods name = unwrap_or (position (is_method name) methods) (length methods)

abbrev pub method_declared : Option BeanDecl → List ℕ → ℕ
method_declared None name = 0
method_declared (Some bean) name = position_of_method bean.methods name

-- a method of a managed bean of a class, by its position; a product has one method, which is told by 0 (profile)
unfoldable pub method_of : List Decl → Option (List ℕ) → List ℕ → ℕ
method_of ds None name = 0
method_of ds (Some class) name = method_declared (find_bean class ds) name

-- a call of a method of what is chosen for an injection point
unfoldable pub site_at : List Decl → Via → Target → List ℕ → CallSite
site_at ds via target name = record { via = via; bean = target.bean; method = method_of ds target.class name }

abbrev pub is_point : List ℕ → PointDecl → Bool
is_point name point = bytes_eq point.name name

-- the position of an injection point of this name, or the one behind the last
abbrev pub position_of_point : List PointDecl → List ℕ → ℕ
position_of_point points name = unwrap_or (position (is_point name) points) (length points)

-- what is chosen for the injection point at a position
abbrev pub target_at : List Effective → List Target → ℕ → Target
target_at list targets p = unwrap_or (slice_get targets p) (nowhere list)

-- an injection point of whoever runs
abbrev pub site_of_own : List Decl → List Effective → Sight → CallDecl → ℕ → CallSite
site_of_own ds list sight call p = site_at ds (Own p) (target_at list sight.targets p) call.method

-- the parameter at this position, where there is one, or else the injection point of the name that the site writes
abbrev pub site_among : List Decl → List Effective → Sight → CallDecl → Option ℕ → CallSite
site_among ds list sight call (Some p) = site_at ds (Param p) (target_at list sight.param_targets p) call.method
site_among ds list sight call None = site_of_own ds list sight call (position_of_point sight.points call.point)

-- where a call site leads: by a parameter of the name that it writes, or else by an injection point
unfoldable pub site_of : List Decl → List Effective → Sight → CallDecl → CallSite
site_of ds list sight call = site_among ds list sight call (position (is_point call.point) sight.params)
